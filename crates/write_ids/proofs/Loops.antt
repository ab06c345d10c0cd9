-- Loops that print something of k bytes for each of some ids: what each turn keeps, once for all of them.
use mathlib.Core.Path.{◌≡◌, refl, sym, ap, ◌∙◌}
use mathlib.Core.List.{List, [], ◌∷◌, ◌++◌, flat_map}
use Prim.Native.Nat.{ℕ, zero, suc, ◌+◌, ◌*◌, ◌-◌, ◌<◌, ◌≤◌}
use native.Mathlib.Nat.{mul-suc, mul-zero}
use native.Mathlib.Omega.{arith}
use Rattle.std.specs.declared.ops.Range.{Range}
use Rattle.octets.specs.declared.Output.{Output}
use Rattle.octets.specs.Stores.{Wrote}
use Rattle.octets.proofs.Lists.{flat_map-append, flat_map_one}
use Rattle.octets.proofs.Stores.{◌▹◌, told, nothing}
use Rattle.panel.specs.declared.Ids.{Ids}
use Rattle.heif.specs.Items.{ids_from}

ids_snoc : (first n : ℕ) → ids_from first (suc n) ≡ ids_from first n ++ (first + n) ∷ []
ids_snoc first zero = let e : first + 0 ≡ first = omega arith in rw e refl
ids_snoc first (suc n) = let e : first + suc n ≡ suc first + n = omega arith in rw e (ap (λ (l : List ℕ). first ∷ l) (ids_snoc (suc first) n))

-- k more for each number more
more : (k n : ℕ) → k * suc n ≡ k * n + k
more k n = omega (arith, mul-suc k n)

-- an id comes, and the next of r is one more
abbrev pub Next : Range ℕ → ℕ → Range ℕ → Type 0
Next r id t = (t.end ≡ r.end) × ((0 < r.end - r.start) × (id ≡ r.start) × (t.start ≡ r.start + 1))

module _ (print : ℕ → List ℕ) (k : ℕ) (l : Output) (ids : Ids) where
  -- the ids that are below those of r are printed
  pub record Printed (r : Range ℕ) (m : Output) : Type 0 where
    pub from : ids.first.0 ≤ r.start
    pub until : r.start ≤ ids.first.0 + ids.count
    pub end : r.end ≡ ids.first.0 + ids.count
    pub wrote : Wrote l (k * (r.start - ids.first.0)) (flat_map print (ids_from ids.first.0 (r.start - ids.first.0))) m

module _ {print : ℕ → List ℕ} {k : ℕ} {l : Output} {ids : Ids} where
  pub begun : {r : Range ℕ} → r.start ≡ ids.first.0 → r.end ≡ ids.first.0 + ids.count → Printed print k l ids r l
  unfolding flat_map
  begun {r} first end =
      let e : r.start - ids.first.0 ≡ 0 = omega (arith, first) in
      record { from = omega (arith, first); until = omega (arith, first); end = end; wrote = rw (e, mul-zero k) nothing }

  pub turned : {r t : Range ℕ} {id : ℕ} {m o : Output} → Printed print k l ids r m → Next r id t → Wrote m k (print id) o → Printed print k l ids t o
  turned {r} {t} {id} p next w =
      let first = ids.first.0 in
      let n : t.start - first ≡ suc (r.start - first) = omega (arith, p.from, next.1.2) in
      let here : first + (r.start - first) ≡ id = omega (arith, p.from, next.1.1) in
      let front = ids_from first (r.start - first) in
      let bytes = ap (λ (x : List ℕ). flat_map print front ++ x) (sym (flat_map_one print id)) ∙ sym (flat_map-append print front (id ∷ [])) in
      let numbers = ap (λ (x : ℕ). front ++ x ∷ []) (sym here) ∙ sym (ids_snoc first (r.start - first)) in
      record {
        from = omega (arith, p.from, next.1.2);
        until = omega (arith, p.end, next.1.0, next.1.2);
        end = next.0 ∙ p.end;
        wrote = rw n (told (p.wrote ▹ w) (bytes ∙ ap (flat_map print) numbers) (sym (more k (r.start - first))));
      }

  pub ended : {r : Range ℕ} {m : Output} → Printed print k l ids r m → r.end - r.start ≡ 0 → Wrote l (k * ids.count) (flat_map print (ids_from ids.first.0 ids.count)) m
  ended {r} p e = let h : r.start - ids.first.0 ≡ ids.count = omega (arith, p.from, p.until, p.end, e) in rw h at p.wrote
