-- The library's sum is the definition's.
use mathlib.Core.Path.{◌≡◌, ◌∙◌}
use borrow.Author.Rules.{rules}
use Rattle.std.specs.List.{sum}
use Rattle.octets.proofs.Lists.{sum_is_total}
use Rattle.octets.proofs.total.Goals as goal

pub returns : goal.returns
returns c =
    let summed : c.sum.result ≡ sum c.args.lengths.now = search rules in
    summed ∙ sum_is_total c.args.lengths.now
