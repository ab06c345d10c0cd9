-- Laws of `Wrote`: one write behind another is one write, a box is a write, and what a loop of writes still owes.
use mathlib.Core.Path.{◌≡◌, refl, sym, ap, ◌∙◌}
use mathlib.Core.List.{List, [], ◌∷◌, ◌++◌, append_assoc}
use Prim.Native.Nat.{ℕ, suc, ◌+◌, ◌-◌, ◌≤◌}
use Prim.Native.String.{String}
use native.Mathlib.Nat.{add-zero, add-suc, suc-add}
use native.Mathlib.Omega.{arith}
use lib.ListN.{length, length-append, take, drop}
use lib.Seq.{sets, sets-eq, length-sets, drop-drop}
use Rattle.octets.specs.Numbers.{◌‖◌, be}
use Rattle.octets.specs.Boxes.{kind, tag, Box, box, box_of, full, boxes}
use Rattle.octets.specs.declared.Output.{Output}
use Rattle.octets.specs.Stores.{lay, Wrote, Boxed}
use Rattle.octets.proofs.Boxes.{boxes-append, boxes_one, tag-kind_of}

-- ---- runs of stores

sets-append : (l : List ℕ) (i : ℕ) (xs ys : List ℕ) → sets (sets l i xs) (i + length xs) ys ≡ sets l i (xs ++ ys)
sets-append l i [] ys = ap (λ (k : ℕ). sets l k ys) (add-zero i)
sets-append l i (x ∷ xs) ys = ap (λ (k : ℕ). sets (sets l i (x ∷ xs)) k ys) (add-suc i (length xs) ∙ sym (suc-add i (length xs))) ∙ sets-append _ (suc i) xs ys

-- stores keep the length
pub length-lay : (l : List ℕ) (i : ℕ) (xs : List ℕ) → length (lay l i xs) ≡ length l
unfolding lay
length-lay l i xs = length-sets l i xs

-- a copy into the part from a on, as long as the part is
pub copied : (l : List ℕ) (a : ℕ) {src part : List ℕ} → a + length src ≤ length l → part ≡ src → take a l ++ (part ++ drop (a + length src - a) (drop a l)) ≡ lay l a src
unfolding lay
copied l a {src} h e =
    let k : a + length src - a ≡ length src = omega arith in
    rw (k, e) (ap (λ (r : List ℕ). take a l ++ (src ++ r)) (drop-drop (length src) a l) ∙ sym (append_assoc (take a l) src _) ∙ sym (sets-eq src l a h))

-- ---- writes

infixr 20 ◌▹◌
-- a write behind a write is one write
pub ◌▹◌ : {l m o : Output} {xs ys : List ℕ} {n k : ℕ} → Wrote l n xs m → Wrote m k ys o → Wrote l (n + k) (xs ++ ys) o
unfolding lay
◌▹◌ {l} {m} {o} {xs} {ys} {n} {k} p q =
    record {
      bytes = q.bytes ∙ rw (p.bytes, p.end, ← p.size) (sets-append l.bytes.now l.at xs ys);
      size = length-append xs ys ∙ rw (p.size, q.size);
      end = omega (arith, p.end, q.end);
      kept = q.kept ∙ p.kept;
      same = q.same ∙ p.same;
    }

-- the same bytes, said otherwise
pub told : {l o : Output} {xs ys : List ℕ} {n k : ℕ} → Wrote l n xs o → xs ≡ ys → n ≡ k → Wrote l k ys o
told p e h = record { bytes = rw (← e) p.bytes; size = rw (← e, ← h) p.size; end = rw (← h) p.end; kept = p.kept; same = p.same }

-- nothing written
pub nothing : {l : Output} → Wrote l 0 [] l
unfolding lay
nothing = record { bytes = refl; size = refl; end = omega arith; kept = refl; same = refl }

-- where two ways meet: what the output is there
pub met : {l o o' : Output} {xs : List ℕ} {n : ℕ} → Wrote l n xs o → o' ≡ o → Wrote l n xs o'
met w p = rw p w

-- a write at the start: its bytes in front, the old rest behind
pub front : {l o : Output} {xs : List ℕ} {n : ℕ} → Wrote l n xs o → l.at ≡ 0 → n ≤ length l.bytes.now → o.bytes.now ≡ xs ++ drop (length xs) l.bytes.now
unfolding lay
front {l} {o} {xs} w z h =
    let e : 0 + length xs ≡ length xs = omega arith in
    w.bytes ∙ rw z (sets-eq xs l.bytes.now 0 (omega (arith, w.size)) ∙ ap (λ (i : ℕ). xs ++ drop i l.bytes.now) e)

-- ---- boxes

-- a box: its head, its body
pub boxed : {l m o : Output} {x : List ℕ} {n s : ℕ} (t : String) → Wrote l 8 (be 4 s ‖ tag (kind t)) m → Wrote m n x o → s ≡ 8 + n
    → Boxed l (8 + n) (box t x ∷ []) o
boxed {x = x} {s = s} t a c h =
    let z : s ≡ 8 + length x = omega (arith, c.size) in
    record { wrote = told (a ▹ c) (ap (λ (k : ℕ). be 4 k ‖ tag (kind t) ‖ x) z ∙ sym (boxes_one (box t x))) refl }

-- a box of a type that is given as bytes
pub boxed_of : {l m o : Output} {t x : List ℕ} {n s : ℕ} → Wrote l 8 (be 4 s ‖ t) m → Wrote m n x o → length t ≡ 4 → s ≡ 8 + n → Boxed l (8 + n) (box_of t x ∷ []) o
boxed_of {t = t} {x = x} {s = s} a c w h =
    let z : s ≡ 8 + length x = omega (arith, c.size) in
    let k = tag-kind_of t w in
    record { wrote = told (a ▹ c) ((λ i. be 4 (z i) ‖ sym k i ‖ x) ∙ sym (boxes_one (box_of t x))) refl }

-- a box with a version and flags
pub full_boxed : {l m o : Output} {x : List ℕ} {n s : ℕ} (t : String) (v f : ℕ) → Wrote l 12 (be 4 s ‖ tag (kind t) ‖ be 1 v ‖ be 3 f) m → Wrote m n x o
    → s ≡ 12 + n → Boxed l (12 + n) (full t v f x ∷ []) o
full_boxed {x = x} {s = s} t v f a c h =
    let z : s ≡ 8 + length (be 1 v ‖ be 3 f ‖ x) = omega (arith, c.size) in
    record { wrote = told (a ▹ c) (ap (λ (k : ℕ). be 4 k ‖ tag (kind t) ‖ be 1 v ‖ be 3 f ‖ x) z ∙ sym (boxes_one (full t v f x))) refl }

infixr 20 ◌▸◌
-- boxes behind boxes
pub ◌▸◌ : {l m o : Output} {x y : List Box} {n k : ℕ} → Boxed l n x m → Boxed m k y o → Boxed l (n + k) (x ++ y) o
◌▸◌ {x = x} {y = y} p q = record { wrote = told (p.wrote ▹ q.wrote) (sym (boxes-append x y)) refl }

-- the same boxes, said otherwise
pub retold : {l o : Output} {x y : List Box} {n k : ℕ} → Boxed l n x o → x ≡ y → n ≡ k → Boxed l k y o
retold p e h = record { wrote = told p.wrote (ap boxes e) h }

-- no box
pub no_boxes : {l : Output} → Boxed l 0 [] l
unfolding boxes
no_boxes = record { wrote = nothing }

-- ---- loops that write

-- whatever writes the k bytes ys into m completes the write of xs
pub record Owes (l : Output) (n : ℕ) (xs : List ℕ) (m : Output) (k : ℕ) (ys : List ℕ) : Type 0 where
  pub pay : {o : Output} → Wrote m k ys o → Wrote l n xs o

-- at the start all is owed
pub owes : {l : Output} {xs : List ℕ} {n k : ℕ} → k ≡ n → Owes l n xs l k xs
owes h = record { pay = λ w. told w refl h }

-- a turn writes the front of what is owed
pub turn : {l m o : Output} {xs ys z zs : List ℕ} {n k s t : ℕ} → Owes l n xs m k ys → Wrote m s z o → ys ≡ z ++ zs → k ≡ s + t → Owes l n xs o t zs
turn p w q h = record { pay = λ v. p.pay (told (w ▹ v) (sym q) (sym h)) }

-- at the end nothing is owed
pub paid : {l m : Output} {xs ys : List ℕ} {n k : ℕ} → Owes l n xs m k ys → ys ≡ [] → k ≡ 0 → Wrote l n xs m
paid p q h = p.pay (told nothing (sym q) (sym h))
