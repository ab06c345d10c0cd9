-- What the library's functions answer, and what the output holds afterwards.
use Rattle.std.specs.Prelude.{None, Some, List, ℕ}
use Rattle.panel.specs.Form.{Form, form_of}
use Rattle.panel.specs.Outcome.{Outcome, refused}
use Rattle.panel_codes.specs.Codes.{form_named}
use Rattle.heif.specs.Answer.{length_answer, write_answer, after}
use Rattle.c_types.specs.Lent.{Lent}
use Rattle.c_types.specs.declared.PanelCodes.{PanelCodes}
use Rattle.c_numbers.specs.Codes.{panel_from}

-- ---- in a form of the file

-- of the length call: 13 where a code of the panel stands for nothing, before all checks
unfoldable pub said_length : Form → PanelCodes → Lent → Outcome
said_length f c l = elim (panel_from c l) [ None ↦ refused 13 | Some p ↦ length_answer f p ]

-- of the writing call, into an output with so much room
unfoldable pub said : Form → PanelCodes → Lent → ℕ → Outcome
said f c l room = elim (panel_from c l) [ None ↦ refused 13 | Some p ↦ write_answer f p room ]

-- an output that held `old`, after the writing call
unfoldable pub after_call : Form → PanelCodes → Lent → List ℕ → List ℕ
after_call f c l old = elim (panel_from c l) [ None ↦ old | Some p ↦ after f p old ]

-- ---- in the form with this code: 13 where it stands for nothing, before all else

unfoldable pub said_length_in : ℕ → PanelCodes → Lent → Outcome
said_length_in form c l = elim (form_named form) [ None ↦ refused 13 | Some f ↦ said_length (form_of f) c l ]

unfoldable pub said_in : ℕ → PanelCodes → Lent → ℕ → Outcome
said_in form c l room = elim (form_named form) [ None ↦ refused 13 | Some f ↦ said (form_of f) c l room ]

unfoldable pub after_call_in : ℕ → PanelCodes → Lent → List ℕ → List ℕ
after_call_in form c l old = elim (form_named form) [ None ↦ old | Some f ↦ after_call (form_of f) c l old ]
