-- Bytes and the elements of eight bytes that they are; one element written over another.
use mathlib.Core.Path.{◌≡◌, refl, sym, ap, ◌∙◌}
use mathlib.Core.List.{List, [], ◌∷◌, ◌++◌, append_assoc}
use Prim.Native.Nat.{ℕ, zero, suc, ◌+◌, ◌*◌, ◌/◌, ◌%◌, ◌<◌}
use native.Mathlib.Decide.{ℕ_discrete}
use native.Mathlib.Omega.{arith}
use lib.ListN.{length, get_or, set, take, drop, length-append, length-drop, length-set, take-append-drop}
use lib.Seq.{length-take-le, take_at, drop_at, take-append-add, drop-append-add, drop-drop, get_or-take, get_or-drop, get_or-set_same, get_or-set_other, ext_get_or}
use Rattle.matrix.specs.Plain.{AllBelow}
use Rattle.matrix.specs.Swap.{swap}
use Rattle.matrix.specs.Table.{table}
use Rattle.matrix.proofs.TableLaws.{length-table, get_or-table}
use Rattle.encoding.specs.Bytes.{low_first, bytes}
use Rattle.encoding.specs.Elements.{elements, joined}
use Rattle.encoding.specs.Writing.{over}

abbrev pub Eights : List (List ℕ) → Type 0
Eights es = (k : ℕ) → k < length es → length (get_or es k []) ≡ 8

tail_eights : (x : List ℕ) (xs : List (List ℕ)) → Eights (x ∷ xs) → Eights xs
tail_eights x xs h k q = h (suc k) (omega arith)

-- ---- of elements
pub length-joined : (es : List (List ℕ)) → Eights es → length (joined es) ≡ 8 * length es
unfolding joined
length-joined [] h = refl
length-joined (x ∷ xs) h = length-append x (joined xs) ∙ omega (arith, h 0 (omega arith), length-joined xs (tail_eights x xs h))

joined_at : (es : List (List ℕ)) → Eights es → (k : ℕ) → k < length es → take 8 (drop (8 * k) (joined es)) ≡ get_or es k []
unfolding joined
joined_at [] h k q = absurd (omega arith)
joined_at (x ∷ xs) h zero q = take_at x (joined xs) 8 (h 0 (omega arith))
joined_at (x ∷ xs) h (suc k) q =
    let e : 8 * suc k ≡ length x + 8 * k = omega (arith, h 0 (omega arith)) in
    rw (e, drop-append-add x (joined xs) (8 * k)) (joined_at xs (tail_eights x xs h) k (omega arith))

pub length-elements : (b : List ℕ) → length (elements b) ≡ length b / 8
unfolding elements
length-elements b = length-table (length b / 8) (λ k. take 8 (drop (8 * k) b))

pub element_at : (b : List ℕ) (k : ℕ) → k < length b / 8 → get_or (elements b) k [] ≡ take 8 (drop (8 * k) b)
unfolding elements
element_at b k h = get_or-table (length b / 8) (λ k. take 8 (drop (8 * k) b)) k [] h

pub elements-joined : (es : List (List ℕ)) → Eights es → elements (joined es) ≡ es
elements-joined es h =
    let n : length (joined es) ≡ 8 * length es = length-joined es h in
    let m : length (elements (joined es)) ≡ length es = omega (arith, length-elements (joined es)) in
    ext_get_or [] (elements (joined es)) es m (λ k q. element_at (joined es) k (omega (arith, length-elements (joined es))) ∙ joined_at es h k (omega arith))

pub elements-eights : (b : List ℕ) → Eights (elements b)
elements-eights b k q =
    let l : k < length b / 8 = omega (arith, length-elements b) in
    ap length (element_at b k l) ∙ length-take-le 8 (drop (8 * k) b) (omega (arith, length-drop (8 * k) b))

-- ---- of bytes
table-alike : {A : Type 0} (k : ℕ) (f g : ℕ → A) → ((i : ℕ) → f i ≡ g i) → table k f ≡ table k g
unfolding table
table-alike zero f g h = refl
table-alike (suc k) f g h = rw (h 0, table-alike k (λ i. f (suc i)) (λ i. g (suc i)) (λ i. h (suc i)))

joined-table : (m : ℕ) (b : List ℕ) → length b ≡ 8 * m → joined (table m (λ k. take 8 (drop (8 * k) b))) ≡ b
unfolding table joined
joined-table zero [] h = refl
joined-table zero (x ∷ b) h = absurd (omega arith)
joined-table (suc m) b h =
    let step : (i : ℕ) → take 8 (drop (8 * suc i) b) ≡ take 8 (drop (8 * i) (drop 8 b)) = λ i. let e : 8 * suc i ≡ 8 + 8 * i = omega arith in rw (e, drop-drop) in
    let t = table-alike m (λ i. take 8 (drop (8 * suc i) b)) (λ i. take 8 (drop (8 * i) (drop 8 b))) step in
    ap (λ (x : List (List ℕ)). take 8 b ++ joined x) t ∙ ap (λ (x : List ℕ). take 8 b ++ x) (joined-table m (drop 8 b) (omega (arith, length-drop 8 b))) ∙ take-append-drop 8 b

pub joined-elements : (b : List ℕ) (m : ℕ) → length b ≡ 8 * m → joined (elements b) ≡ b
unfolding elements
joined-elements b m h = let e : length b / 8 ≡ m = omega arith in rw e (joined-table m b h)

-- ---- one element written over another
pub over-set : (es : List (List ℕ)) → Eights es → (k : ℕ) (v : List ℕ) → k < length es → length v ≡ 8 → over (joined es) (8 * k) v ≡ joined (set es k v)
unfolding over joined
over-set [] h k v q e = absurd (omega arith)
over-set (x ∷ xs) h zero v q e = ap (λ (y : List ℕ). v ++ y) (drop_at x (joined xs) (0 + length v) (omega (arith, h 0 (omega arith))))
over-set (x ∷ xs) h (suc k) v q e =
    let p : 8 * suc k ≡ length x + 8 * k = omega (arith, h 0 (omega arith)) in
    let r : length x + 8 * k + length v ≡ length x + (8 * k + length v) = omega arith in
    let t = take (8 * k) (joined xs) in
    let d = drop (8 * k + length v) (joined xs) in
    rw (p, r, take-append-add, drop-append-add)
    (ap (λ (y : List ℕ). y ++ d) (append_assoc x t v) ∙ append_assoc x (t ++ v) d ∙ ap (λ (y : List ℕ). x ++ y) (over-set xs (tail_eights x xs h) k v (omega arith) e))

pub eights_set : (es : List (List ℕ)) → Eights es → (k : ℕ) (v : List ℕ) → k < length es → length v ≡ 8 → Eights (set es k v)
eights_set es h k v l e i q = elim (ℕ_discrete i k) [
  | yes s ↦ rw s (ap length (get_or-set_same es k v [] l) ∙ e)
  | no s ↦ ap length (get_or-set_other es k i v [] s) ∙ h i (omega (arith, length-set es k v))
]

-- ---- the bytes of a number that was read from them
bytes-number : (xs : List ℕ) → AllBelow 256 xs → bytes (length xs) (low_first xs) ≡ xs
unfolding bytes low_first
bytes-number [] h = refl
bytes-number (x ∷ xs) h =
    let s : x < 256 = h 0 (omega arith) in
    let m : (x + 256 * low_first xs) % 256 ≡ x = omega arith in
    let d : (x + 256 * low_first xs) / 256 ≡ low_first xs = omega arith in
    rw (m, d, bytes-number xs (λ i q. h (suc i) (omega arith)))

pub element_bytes : (b : List ℕ) (k : ℕ) → k < length b / 8 → ((i : ℕ) → get_or b i 0 < 256) → bytes 8 (low_first (take 8 (drop (8 * k) b))) ≡ get_or (elements b) k []
element_bytes b k h small =
    let xs = take 8 (drop (8 * k) b) in
    let n : length xs ≡ 8 = length-take-le 8 (drop (8 * k) b) (omega (arith, length-drop (8 * k) b)) in
    let each : AllBelow 256 xs = λ i q. rw (get_or-take 8 (drop (8 * k) b) i 0 (omega arith), get_or-drop (8 * k) b i 0) (small (8 * k + i)) in
    (rw n at (bytes-number xs each)) ∙ sym (element_at b k h)

-- ---- two elements change places
module _ (b : List ℕ) (m x y : ℕ) (len : length b ≡ 8 * m) (px : x < m) (py : y < m) (small : (i : ℕ) → get_or b i 0 < 256) where
  pub elements-swapped : over (over b (8 * x) (bytes 8 (low_first (take 8 (drop (8 * y) b))))) (8 * y) (bytes 8 (low_first (take 8 (drop (8 * x) b)))) ≡ joined (swap [] (elements b) x y)
  elements-swapped =
      let es = elements b in
      let n : length es ≡ m = omega (arith, length-elements b) in
      let u = get_or es x [] in
      let v = get_or es y [] in
      let E = elements-eights b in
      let lx : x < length es = omega arith in
      let ly : y < length es = omega arith in
      let once : over b (8 * x) v ≡ joined (set es x v) = ap (λ (c : List ℕ). over c (8 * x) v) (sym (joined-elements b m len)) ∙ over-set es E x v lx (E y ly) in
      rw (element_bytes b y (omega arith) small, element_bytes b x (omega arith) small, once)
      (over-set (set es x v) (eights_set es E x v lx (E y ly)) y u (omega (arith, length-set es x v)) (E x lx))
