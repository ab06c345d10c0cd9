-- No value so far has the code: what it names is named by the values that are left.
use Rattle.std.proofs.Common.{◌≡◌, drop}
use Rattle.panel.specs.Codes.{named}
use Rattle.panel_codes.proofs.named.Given as goal

abbrev pub invariant-loop-value : goal.invariant-loop-value
invariant-loop-value g l =
    named g.T.Coded.code (drop l.value-index l.value-items) l.code ≡ named g.T.Coded.code g.T.Coded.every l.code
