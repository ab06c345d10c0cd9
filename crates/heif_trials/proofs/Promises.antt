-- The definition keeps both promises in every form; each wrong program breaks one, at the panel and the output given.
use mathlib.Core.Path.{◌≡◌, refl, ap}
use mathlib.Core.List.{List, flatten, flat_map}
use Prim.Native.Nat.{ℕ}
use native.Mathlib.Omega.{arith}
use lib.ListN.{get_or, replicate}
use Rattle.octets.specs.Boxes.{boxes}
use Rattle.panel.specs.Panel.{Panel}
use Rattle.panel.specs.Form.{Form, ordinary, wide}
use Rattle.panel.specs.Outcome.{Outcome, made, refused}
use Rattle.heif.specs.File.{file}
use Rattle.heif.specs.Refusal.{refusal, refusal_in}
use Rattle.heif.specs.Answer.{length_answer, write_answer, after, Promised, Promise, LengthPromise}
use Rattle.heif_trials.specs.Panels.{panel_p, panel_p_other}
use Rattle.heif_trials.specs.Wrong.{refuses_all, emits_panel_p, writes_nothing, first_offset, writes_as, invented}
use Rattle.heif_trials.proofs.Examples.{panel_p-fits, panel_p_other-fits}

pub kept : (f : Form) → Promise f (writes_as f)
kept f p fits old = record { answer = refl; output = refl }

pub length_kept : (f : Form) → LengthPromise f (length_answer f)
length_kept f p fits = refl

-- 556 zero bytes
abbrev zeros : List ℕ
zeros = replicate 556 0

made-length : Outcome → ℕ
made-length (made n) = n
made-length (refused k) = 0

-- of a program that keeps the promise, the byte at i of the output
byte_at : {p : Panel} {old : List ℕ} {o : Outcome} {new : List ℕ} → Promised ordinary p old o new → (i : ℕ) → get_or new i 0 ≡ get_or (after ordinary p old) i 0
byte_at h i = ap (λ (l : List ℕ). get_or l i 0) h.output

-- P is accepted
pub refuses_all_breaks : Promise ordinary refuses_all → ⊥
unfolding boxes flatten flat_map file refusal_in write_answer made-length
refuses_all_breaks h = let z : ◌≡◌ {A = ℕ} 0 556 = ap made-length (h panel_p panel_p-fits zeros).answer in omega arith

-- the other panel's sample stands at 554
pub emits_panel_p-breaks : Promise ordinary emits_panel_p → ⊥
unfolding boxes flatten flat_map file refusal_in write_answer after
emits_panel_p-breaks h = let z : ◌≡◌ {A = ℕ} 0xAA 0xAC = byte_at (h panel_p_other panel_p_other-fits zeros) 554 in omega arith

-- the first box's type stands at 4
pub writes_nothing_breaks : Promise ordinary writes_nothing → ⊥
unfolding boxes flatten flat_map file refusal_in write_answer after
writes_nothing_breaks h = let z : ◌≡◌ {A = ℕ} 0 0x66 = byte_at (h panel_p panel_p-fits zeros) 4 in omega arith

-- the alpha tile's offset, 555, ends at 146
pub first_offset_breaks : Promise ordinary first_offset → ⊥
unfolding boxes flatten flat_map file refusal_in write_answer after
first_offset_breaks h = let z : ◌≡◌ {A = ℕ} 0 0x2B = byte_at (h panel_p panel_p-fits zeros) 146 in omega arith

-- into 598 bytes: an ordinary call writes no wide file, nor the other way round
abbrev zeros_598 : List ℕ
zeros_598 = replicate 598 0

pub wide_file_breaks : Promise ordinary (writes_as wide) → ⊥
unfolding boxes flatten flat_map file refusal_in write_answer made-length
wide_file_breaks h = let z : ◌≡◌ {A = ℕ} 598 556 = ap made-length (h panel_p panel_p-fits zeros_598).answer in omega arith

pub ordinary_file_breaks : Promise wide (writes_as ordinary) → ⊥
unfolding boxes flatten flat_map file refusal_in write_answer made-length
ordinary_file_breaks h = let z : ◌≡◌ {A = ℕ} 556 598 = ap made-length (h panel_p panel_p-fits zeros_598).answer in omega arith

pub invented_breaks : LengthPromise ordinary invented → ⊥
unfolding boxes flatten flat_map file refusal length_answer made-length
invented_breaks h = let z : ◌≡◌ {A = ℕ} 557 556 = ap made-length (h panel_p panel_p-fits) in omega arith
