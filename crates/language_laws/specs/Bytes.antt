-- Entries and their bytes: each gives the other back.
use Rattle.std.specs.Prelude.{◌≡◌, refl, true, ◌&&◌, List, [], ◌∷◌, ◌++◌, ℕ, zero, suc, ◌+◌, ◌*◌, ◌/◌, ltb, length, take, drop}
use Rattle.std.proofs.Common.{◌∙◌, ap, arith, take-append-drop, length-drop, get_or-drop, drop-drop, ltb-true, lt-ltb, SFits}
use Rattle.std.specs.Int.Signed.{mag}
use Rattle.std.specs.Int.{w32}
use Rattle.language.specs.Program.{table_bytes, in_fields}
use Rattle.logic.specs.Lists.{all}
use Rattle.words.specs.Numbers.{half, word, half_at, word_at, integer_of, word_of}
use Rattle.words.specs.Laws.{Bytes, two, four, number-of-bytes, number-below, bytes-slice, integer-back, word_back, integer-fits}
use Rattle.language.specs.Table.{Entry, entries}
use Rattle.logic.specs.Tests.{both_left, both_right}

-- eight bytes and those after them
eight : (l x y z : List ℕ) → x ≡ take 2 l → y ≡ take 2 (drop 2 l) → z ≡ take 4 (drop 4 l) → x ++ (y ++ (z ++ drop 8 l)) ≡ l
eight l x y z p q r =
    rw (p, q, r, ← drop-drop 4 4 l, take-append-drop 4 (drop 4 l), ← drop-drop 2 2 l, take-append-drop 2 (drop 2 l)) (take-append-drop 2 l)

bytes_drop : (n : ℕ) (l : List ℕ) → Bytes l → Bytes (drop n l)
bytes_drop n l b k = rw (get_or-drop n l k 0) (b (n + k))

pub bytes_back : (n : ℕ) (l : List ℕ) → Bytes l → length l ≡ 8 * n → table_bytes (entries n l) ≡ l
unfolding table_bytes entries
bytes_back zero [] b h = refl
bytes_back zero (x ∷ l) b h = absurd (omega arith)
bytes_back (suc n) l b h =
    rw (bytes_back n (drop 8 l) (bytes_drop 8 l b) (rw (length-drop 8 l) (omega arith)), word_back (word_at l 4) (number-below l b 4 four))
    (eight l (half (half_at l 0)) (half (half_at l 2)) (word (word_at l 4)) (bytes-slice l b 0 two (omega arith)) (bytes-slice l b 2 two (omega arith)) (bytes-slice l b 4 four (omega arith)))

pub fields-kept : (n : ℕ) (l : List ℕ) → Bytes l → all in_fields (entries n l) ≡ true
unfolding entries all
fields-kept zero l b = refl
fields-kept (suc n) l b =
    rw (
      lt-ltb (half_at l 0) 65536 (number-below l b 0 two),
      lt-ltb (half_at l 2) 65536 (number-below l b 2 two),
      lt-ltb (mag (integer_of (word_at l 4))) 2147483648 (integer-fits (word_at l 4) (number-below l b 4 four)).sfits,
    )
    (fields-kept n (drop 8 l) (bytes_drop 8 l b))

pub number_fits : (e : Entry) → in_fields e ≡ true → SFits w32 e.b
number_fits e h =
    let k = both_right (ltb e.kind 65536) (ltb e.a 65536 && ltb (mag e.b) 2147483648) h in
    record { sfits = ltb-true (mag e.b) 2147483648 (both_right (ltb e.a 65536) (ltb (mag e.b) 2147483648) k) }

entries-back : (es : List Entry) → all in_fields es ≡ true → entries (length es) (table_bytes es) ≡ es
unfolding table_bytes entries all
entries-back [] h = refl
entries-back (e ∷ es) h =
    let r = entries-back es (both_right (in_fields e) (all in_fields es) h) in
    let z = ap integer_of (number-of-bytes four (word_of e.b)) ∙ integer-back e.b (number_fits e (both_left (in_fields e) (all in_fields es) h)) in
    λ i. record { kind = number-of-bytes two e.kind i; a = number-of-bytes two e.a i; b = z i } ∷ r i

pub length-bytes : (es : List Entry) → length (table_bytes es) ≡ 8 * length es
unfolding table_bytes
length-bytes [] = refl
length-bytes (e ∷ es) = omega (arith, length-bytes es)

pub entries-all : (es : List Entry) → all in_fields es ≡ true → entries (length (table_bytes es) / 8) (table_bytes es) ≡ es
entries-all es h =
    let q : length (table_bytes es) / 8 ≡ length es = omega (arith, length-bytes es) in
    rw q (entries-back es h)
