-- What the look-up of a code answers.
use Rattle.std.specs.Prelude.{◌≡◌, Option, None, Some, Result, MatchResult}
use Rattle.panel_codes.specs.declared.UnknownCode.{UnknownCode}

-- what the code names, or that it names nothing
abbrev pub Known : {A : Type 0} → Option A → Result A UnknownCode → Type 0
Known o r = MatchResult r (λ a. o ≡ Some a) (λ e. o ≡ None)
