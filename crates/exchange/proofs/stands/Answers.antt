-- `exchange::stands` meets its contract: the slice of the record that stands, itself, or an empty part. Assumes nothing.
use Rattle.exchange.proofs.AlongLaws.{named-bytes}
use Rattle.exchange.proofs.stands.Goals as goal

pub returns : goal.returns
returns c =
    let x = c.args in
    let answered = c.which_stands.ensures in (
      named-bytes c.which_stands.result x.first x.second c.named.result answered c.named.ensures,
      rw answered at c.named.ensures,
    )
