-- The number of the refusal of a call that takes a panel as codes.
use Rattle.std.specs.Prelude.{ℕ}
use Rattle.panel.specs.Outcome.{number}
use Rattle.kahopiru.specs.declared.refusal.CallRefusal.{CallRefusal}
use Rattle.kahopiru.specs.declared.refusal.CallRefusal.TheVariants.{Code, Panel}

abbrev pub call_number : CallRefusal → ℕ
call_number Code = 13
call_number (Panel refusal) = number refusal
