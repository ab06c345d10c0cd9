-- iloc from its pieces: the entries of each run in turn are those of all locations, as many as the last id says.
use mathlib.Core.Path.{◌≡◌, refl, sym, ap, ◌∙◌}
use mathlib.Core.Bool.{Bool, true, false, cond}
use mathlib.Core.List.{List, [], ◌∷◌, ◌++◌, flat_map, append_assoc}
use Prim.Native.Nat.{ℕ, ◌+◌}
use native.Mathlib.Omega.{arith}
use lib.ListN.{length, length-append}
use Rattle.std.specs.Prelude.{is_some, option_map, option_to_list}
use Rattle.std.specs.Bool.{then_some}
use Rattle.octets.specs.Numbers.{◌‖◌, total}
use Rattle.octets.specs.Stores.{Wrote}
use Rattle.octets.specs.declared.Output.{Output}
use Rattle.octets.proofs.Lists.{flat_map-append}
use Rattle.panel.specs.Form.{Form}
use Rattle.panel.specs.Parts.{given}
use Rattle.panel.specs.declared.Shape.{Shape}
use Rattle.panel.specs.declared.WideItemId.{WideItemId}
use Rattle.heif.specs.Items.{colour_grid, alpha_tile, alpha_grid, exif_id, gain_id, last_id}
use Rattle.heif.specs.Iloc.{entry, entry_size}
use Rattle.heif.proofs.Items.{length-given}
use Rattle.heif.proofs.Iloc.{length-located}
use Rattle.plan_items.specs.declared.payloads.PayloadLengths.{PayloadLengths}
use Rattle.plan_items.specs.declared.payloads.Payloads.{Payloads}
use Rattle.write_iloc.specs.Spans.{spans, location, entries}
use Rattle.write_iloc.specs.declared.location.Location.{Location as Entry}
use Rattle.write_iloc.specs.declared.location.Method.TheVariants.{File}
use Rattle.write_iloc.specs.Locations.{location_of, sizes, other_sizes, gain_entries, other_entries, placed}
use Rattle.write_iloc.proofs.Spans.{entries_append, length-spans}

-- ---- runs, one behind the other

-- a payload that is present if b holds
pub where_present : {l o : Output} (f : Form) (id : WideItemId) (at n : ℕ) (b : Bool)
    → let at_file = then_some {T = Entry} b (record { id = id; method = File; offset = at; size = n }) in
    Wrote l (cond (is_some at_file) (entry_size f) 0) (flat_map (entry f) (option_to_list (option_map location_of at_file))) o
    → Wrote l (cond b (entry_size f) 0) (entries f id.0 at (given b (n ∷ []))) o
unfolding spans
where_present f id at n true w = w
where_present f id at n false w = w

tone_after : (f : Form) (id o a b t : ℕ) (gain tone : Bool) → (tone ≡ true → gain ≡ true)
    → entries f id o (given gain (a ∷ b ∷ [])) ++ entries f (id + 2) (o + a + b) (given tone (t ∷ []))
    ≡ entries f id o (given gain (a ∷ b ∷ []) ‖ given tone (t ∷ []))
unfolding spans flat_map
tone_after f id o a b t true tone h = entries_append f id o (a ∷ b ∷ []) (given tone (t ∷ [])) refl (omega arith)
tone_after f id o a b t false false h = refl
tone_after f id o a b t false true h = absurd (let e = h refl in let z : ◌≡◌ {A = ℕ} 0 1 = cc in omega arith)

-- the tone map's entry, which there is only with a gain map
tone_behind : (f : Form) (s : Shape) (o : ℕ) (l : PayloadLengths) → (s.tone ≡ true → s.gain ≡ true) → gain_entries f s o l ≡ entries f (gain_id s) o (sizes s l)
tone_behind f s o l h = tone_after f (gain_id s) o l.sample l.xmp l.tmap s.gain s.tone h

-- how many bytes a payload of e has that is present if b holds
pub given_total : (b : Bool) (e : ℕ) → cond b e 0 ≡ total (given b (e ∷ []))
given_total true e = omega arith
given_total false e = refl

-- the gain map's entries, behind that of the Exif where there is one
gain_behind : (f : Form) (s : Shape) (p : Payloads) → (s.tone ≡ true → s.gain ≡ true)
    → other_entries f s p ≡ entries f (exif_id s) p.other (other_sizes s p.exif p.gain)
gain_behind f s p h =
    let exif = given s.exif (p.exif ∷ []) in
    ap (λ (r : List ℕ). entries f (exif_id s) p.other exif ++ r) (tone_behind f s (p.other + total exif) p.gain h)
    ∙ entries_append f (exif_id s) p.other exif (sizes s p.gain) (ap (λ (n : ℕ). exif_id s + n) (sym (length-given s.exif (p.exif ∷ [])))) refl

-- ---- all of them

-- how many
pub length-placed : (s : Shape) (p : Payloads) (cs ls : List ℕ) → length cs ≡ s.tiles → length ls ≡ s.tiles → length (placed s p cs ls) ≡ last_id s
length-placed s p cs ls hc hl = simp (length-append, length-located, length-spans, length-given) (omega (arith, hc, hl))

-- the runs as they are written
pub entries_joined : (f : Form) (s : Shape) (p : Payloads) (cs ls : List ℕ) → (s.tone ≡ true → s.gain ≡ true)
    → (entries f 1 p.color cs ++ entry f (location (colour_grid s) 1 0 p.descriptor))
    ++ ((entries f (alpha_tile s) p.alpha ls ++ entry f (location (alpha_grid s) 1 p.descriptor p.descriptor)) ++ other_entries f s p)
    ≡ flat_map (entry f) (placed s p cs ls)
unfolding flat_map
entries_joined f s p cs ls h = rw (gain_behind f s p h) (simp (flat_map-append, append_assoc))
