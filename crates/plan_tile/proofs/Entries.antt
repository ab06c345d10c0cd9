-- What stands at a place of a list of bytes: numbers, an entry among entries, a payload among payloads.
use mathlib.Core.Path.{◌≡◌, refl, sym, ap, ◌∙◌}
use mathlib.Core.List.{List, [], ◌∷◌, ◌++◌, map, flatten, flat_map, append_assoc}
use Prim.Native.Nat.{ℕ, zero, suc, ◌+◌, ◌*◌, ◌≤◌, ◌<◌}
use native.Mathlib.Nat.{add-zero}
use native.Mathlib.Omega.{arith}
use lib.ListN.{length, length-append, take, drop, get_or}
use lib.Seq.{drop-drop, drop_at, take_at}
use Rattle.octets.specs.Numbers.{total}
use Rattle.octets.proofs.Lists.{flatten-append}
use Rattle.panel.specs.Form.{ordinary}
use Rattle.heif.specs.Iloc.{Location, extents, located, entry}

-- ---- behind a front of so many bytes

pub behind_front : (a b : List ℕ) (k n : ℕ) → length a ≡ k → drop (k + n) (a ++ b) ≡ drop n b
behind_front a b k n h = sym (drop-drop n k (a ++ b)) ∙ ap (drop n) (drop_at a b k h)

-- ---- entries

-- y begins with x
pub record Begins (x y : List ℕ) : Type 0 where
  pub rest : List ℕ
  pub is : y ≡ x ++ rest

pub begins : {x y z : List ℕ} → z ≡ y → Begins x y → Begins x z
begins e b = record { rest = b.rest; is = e ∙ b.is }

-- the location of the k-th of payloads that lie back to back
abbrev pub location_of : ℕ → ℕ → List (List ℕ) → ℕ → Location
location_of id at l k = record { id = id + k; method = 0; extent = record { offset = at + total (map length (take k l)); size = length (get_or l k []) } }

pub entry_of : (id at : ℕ) (l : List (List ℕ)) (k : ℕ) (more : List ℕ) → k < length l
    → Begins (entry ordinary (location_of id at l k)) (drop (16 * k) (flat_map (entry ordinary) (located id 0 (extents at l)) ++ more))
unfolding flat_map
entry_of id at [] k more h = absurd (omega arith)
entry_of id at (x ∷ l) zero more h =
    let first : Location = record { id = id; method = 0; extent = record { offset = at; size = length x } } in
    let others = flat_map (entry ordinary) (located (suc id) 0 (extents (at + length x) l)) in
    let e : first ≡ location_of id at (x ∷ l) 0 = λ i. record { id = sym (add-zero id) i; method = 0; extent = record { offset = sym (add-zero at) i; size = length x } } in
    record { rest = others ++ more; is = append_assoc (entry ordinary first) others more ∙ ap (λ (m : Location). entry ordinary m ++ (others ++ more)) e }
entry_of id at (x ∷ l) (suc k) more h =
    let first : Location = record { id = id; method = 0; extent = record { offset = at; size = length x } } in
    let others = flat_map (entry ordinary) (located (suc id) 0 (extents (at + length x) l)) in
    let b = entry_of (suc id) (at + length x) l k more (omega arith) in
    let j : suc id + k ≡ id + suc k = omega arith in
    let o : at + length x + total (map length (take k l)) ≡ at + (length x + total (map length (take k l))) = omega arith in
    let e : location_of (suc id) (at + length x) l k ≡ location_of id at (x ∷ l) (suc k) = λ i. record { id = j i; method = 0; extent = record { offset = o i; size = length (get_or l k []) } } in
    let w : 16 * suc k ≡ 16 + 16 * k = omega arith in
    let d : drop (16 * suc k) ((entry ordinary first ++ others) ++ more) ≡ drop (16 * k) (others ++ more)
    = (λ i. drop (w i) (append_assoc (entry ordinary first) others more i)) ∙ behind_front (entry ordinary first) (others ++ more) 16 (16 * k) refl in
    record { rest = b.rest; is = d ∙ b.is ∙ ap (λ (m : Location). entry ordinary m ++ b.rest) e }

-- ---- payloads

-- the k-th of payloads that lie back to back
payload-at : (l : List (List ℕ)) (k : ℕ) (more : List ℕ) → k < length l → take (length (get_or l k [])) (drop (total (map length (take k l))) (flatten l ++ more)) ≡ get_or l k []
unfolding flatten
payload-at [] k more h = absurd (omega arith)
payload-at (x ∷ l) zero more h = ap (take (length x)) (append_assoc x (flatten l) more) ∙ take_at x (flatten l ++ more) (length x) refl
payload-at (x ∷ l) (suc k) more h =
    ap (λ (y : List ℕ). take (length (get_or l k [])) (drop (length x + total (map length (take k l))) y)) (append_assoc x (flatten l) more)
    ∙ ap (take (length (get_or l k []))) (behind_front x (flatten l ++ more) (length x) (total (map length (take k l))) refl)
    ∙ payload-at l k more (omega arith)

-- what it takes is among what all take
pub within : (l : List (List ℕ)) (k : ℕ) → k < length l → total (map length (take k l)) + length (get_or l k []) ≤ length (flatten l)
unfolding flatten
within [] k h = absurd (omega arith)
within (x ∷ l) zero h = omega (arith, length-append x (flatten l))
within (x ∷ l) (suc k) h = omega (arith, length-append x (flatten l), within l k (omega arith))

-- and where others lie before and behind them
pub payload_of : (before l after : List (List ℕ)) (k : ℕ) → k < length l
    → take (length (get_or l k [])) (drop (length (flatten before) + total (map length (take k l))) (flatten (before ++ (l ++ after)))) ≡ get_or l k []
payload_of before l after k h =
    let e : flatten (before ++ (l ++ after)) ≡ flatten before ++ (flatten l ++ flatten after) = flatten-append before (l ++ after) ∙ ap (λ (y : List ℕ). flatten before ++ y) (flatten-append l after) in
    ap (λ (y : List ℕ). take (length (get_or l k [])) (drop (length (flatten before) + total (map length (take k l))) y)) e
    ∙ ap (take (length (get_or l k []))) (behind_front (flatten before) (flatten l ++ flatten after) (length (flatten before)) (total (map length (take k l))) refl)
    ∙ payload-at l k (flatten after) h
