-- What a call comes to, found or refused, as the rules' deed.
use Rattle.std.specs.Prelude.{Result, Ok, Err}
use Rattle.rules.specs.Answers.{Deed, Refusal, Refused}

-- a refusal is a deed too
abbrev pub deed_of : Result Deed Refusal → Deed
deed_of (Ok d) = d
deed_of (Err why) = Refused why
