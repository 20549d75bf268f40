-- What a run that failed says, by what failed. Assumes nothing.
use Rattle.programs.specs.declared.Failed.{Failed}

-- one statement where a read failed, another where a write did
abbrev pub MatchFailed : Failed → Type 0 → Type 0 → Type 0
MatchFailed (Failed.Input e) read write = read
MatchFailed (Failed.Output e) read write = write
