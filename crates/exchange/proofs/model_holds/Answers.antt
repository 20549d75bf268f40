-- `exchange::model_holds` meets its contract: what the reading of the model answers. Assumes nothing.
use mathlib.Core.Path.{◌∙◌}
use Rattle.exchange.proofs.RecordLaws.{model-tells}
use Rattle.exchange.proofs.model_holds.Goals as goal

pub returns : goal.returns
returns c = c.is_ok.ensures.value ∙ model-tells c.args.w.now _ _ c.read.ensures
