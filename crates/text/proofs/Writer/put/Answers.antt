use mathlib.Core.Path.{refl}
use Rattle.text.proofs.AppendLaws.{appended_copy}
use Rattle.text.proofs.Writer.put.Goals as goal

pub returns : goal.returns
returns c =
    let w = c.args.self.now in
    record {
      same = refl;
      appended = rw c.copy_from_slice.ensures.after (appended_copy w.at c.args.s.now w.out.now c.requires);
    }
