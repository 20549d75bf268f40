-- What a record is found to be beside the one standing so far: whether it outranks that one, or its refusal, still without its
-- place.
-- Assumes nothing.
use Rattle.std.specs.Prelude.{Bool, Result, Ok, Err}
use Rattle.schedule.specs.Answers.{Answer, accepted, refused}
use Rattle.schedule.specs.Numbers.{wrap_numbers}
use Rattle.schedule.specs.declared.WrapRefusal.{WrapRefusal}

abbrev pub compared_numbers : Result Bool WrapRefusal → Answer Bool
compared_numbers (Ok above) = accepted above
compared_numbers (Err why) = refused (wrap_numbers why 0)
