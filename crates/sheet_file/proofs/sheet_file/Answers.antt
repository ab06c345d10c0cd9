-- A sheet that is too long, a refusal as it is read, or what the panel is answered.
use Rattle.std.proofs.Common.{rules}
use Rattle.sheet_file.proofs.Promises.{too_long, by_refusal, by_panel}
use Rattle.sheet_file.proofs.sheet_file.Goals as goal

pub returns-then-sheet-gt12288-clause-promised : goal.returns-then-sheet-gt12288-clause-promised
returns-then-sheet-gt12288-clause-promised c = too_long _ c.if-sheet-gt12288.true

pub returns-in_err-panel-clause-promised : goal.returns-in_err-panel-clause-promised
returns-in_err-panel-clause-promised c =
    let refused = by_refusal c.args.sheet.now c.if-sheet-gt12288.false {old = c.args.out.now} c.in_err-panel.ensures in
    search (rules, refused)

pub returns-in_err-wrap_hevc_grid_with_alpha-clause-promised : goal.returns-in_err-wrap_hevc_grid_with_alpha-clause-promised
returns-in_err-wrap_hevc_grid_with_alpha-clause-promised c =
    let refused = by_panel c.args.sheet.now c.if-sheet-gt12288.false c.in_ok-panel.ensures c.in_err-wrap_hevc_grid_with_alpha.ensures.promised in
    search (rules, refused)

pub returns-clause-promised : goal.returns-clause-promised
returns-clause-promised c = by_panel _ c.if-sheet-gt12288.false c.in_ok-panel.ensures c.in_ok-wrap_hevc_grid_with_alpha.ensures.promised
