-- Codes of a form: with 0 the calls say what those without a form say, with 3 they speak of the wide form, and with every other they refuse
-- with 13, whatever the panel and the room, and touch nothing.
use mathlib.Core.Path.{◌≡◌, refl, sym}
use mathlib.Core.List.{List}
use Rattle.std.specs.Prelude.{None}
use Prim.Native.Nat.{ℕ}
use Rattle.panel.specs.Form.{ordinary, wide, form_of}
use Rattle.panel.specs.Outcome.{refused}
use Rattle.panel.specs.Codes.{form_code, every_form}
use Rattle.panel_codes.specs.Codes.{form_named}
use Rattle.panel_codes.proofs.Outside.{misses}
use Rattle.c_types.specs.Lent.{Lent}
use Rattle.c_types.specs.declared.PanelCodes.{PanelCodes}
use Rattle.kahopiru.specs.Calls.{said_length, said, after_call, said_length_in, said_in, after_call_in}

module _ (c : PanelCodes) (l : Lent) where
  pub length_by_0 : said_length_in 0 c l ≡ said_length ordinary c l
  unfolding said_length_in every_form form_of
  length_by_0 = refl

  pub length_by_3 : said_length_in 3 c l ≡ said_length wide c l
  unfolding said_length_in every_form form_of
  length_by_3 = refl

  pub write_by_0 : (room : ℕ) → said_in 0 c l room ≡ said ordinary c l room
  unfolding said_in every_form form_of
  write_by_0 room = refl

  pub write_by_3 : (room : ℕ) → said_in 3 c l room ≡ said wide c l room
  unfolding said_in every_form form_of
  write_by_3 room = refl

  pub after_by_0 : (old : List ℕ) → after_call_in 0 c l old ≡ after_call ordinary c l old
  unfolding after_call_in every_form form_of
  after_by_0 old = refl

  pub after_by_3 : (old : List ℕ) → after_call_in 3 c l old ≡ after_call wide c l old
  unfolding after_call_in every_form form_of
  after_by_3 old = refl

  module _ (n : ℕ) (ordinary : n ≡ 0 → ⊥) (wide : n ≡ 3 → ⊥) where
    no_form : form_named n ≡ None
    unfolding every_form
    no_form = sym (misses form_code every_form n (ordinary, (wide, tt)))

    pub length_refused : said_length_in n c l ≡ refused 13
    unfolding said_length_in
    length_refused = rw (no_form, said_length_in)

    pub write_refused : (room : ℕ) → said_in n c l room ≡ refused 13
    unfolding said_in
    write_refused room = rw (no_form, said_in)

    pub untouched : (old : List ℕ) → after_call_in n c l old ≡ old
    unfolding after_call_in
    untouched old = rw (no_form, after_call_in)
