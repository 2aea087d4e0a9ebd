-- The entries that the definition takes from bytes, and the numbers that are read from them: how many entries there are, which one stands at a
-- place, and those of a part that starts at an entry.
use Rattle.std.specs.Prelude.{◌≡◌, refl, List, [], ◌∷◌, ℕ, zero, suc, ◌+◌, ◌-◌, ◌*◌, ◌/◌, ◌≤◌, ◌<◌, length, take, drop}
use Rattle.std.proofs.Common.{ap, sym, ◌∙◌, arith, add-zero, add_assoc, length-drop, take_all, drop-drop, get_or-drop}
use Rattle.std.proofs.Math.Decide.{dec_le}
use Rattle.std.proofs.Math.Seq.{drop-nil}
use Rattle.words.specs.Numbers.{half_at, word_at, integer_of}
use Rattle.language.specs.Table.{Entry, entry, entries}
use Rattle.language_laws.specs.Claims.{entries_of}

-- ── how many ──
pub length-entries : (n : ℕ) (l : List ℕ) → length (entries n l) ≡ n
unfolding entries
length-entries zero l = refl
length-entries (suc n) l = ap suc (length-entries n (drop 8 l))

pub entries-length : (l : List ℕ) → length (entries_of l) ≡ length l / 8
entries-length l = length-entries (length l / 8) l

-- ── the first ──
abbrev pub entry_at : List ℕ → ℕ → Entry
entry_at l p = entry (half_at l (8 * p)) (half_at l (8 * p + 2)) (integer_of (word_at l (8 * p + 4)))

pub entries_none : (l : List ℕ) → length l < 8 → entries_of l ≡ []
unfolding entries
entries_none l h = let e : length l / 8 ≡ 0 = omega arith in rw e

pub entries-some : (l : List ℕ) → 8 ≤ length l → entries_of l ≡ entry_at l 0 ∷ entries_of (drop 8 l)
unfolding entries
entries-some l h = let e : length l / 8 ≡ suc (length (drop 8 l) / 8) = omega (arith, length-drop 8 l) in rw e

-- ── those further on ──
pub entries-drop : (n : ℕ) (l : List ℕ) → entries_of (drop (8 * n) l) ≡ drop n (entries_of l)
entries-drop zero l = refl
entries-drop (suc n) l =
    let q : 8 * suc n ≡ 8 + 8 * n = omega arith in
    let e : drop (8 * suc n) l ≡ drop (8 * n) (drop 8 l) = rw q (sym (drop-drop (8 * n) 8 l)) in
    elim (dec_le 8 (length l)) [
      | yes h ↦ rw (e, entries-some l h) (entries-drop n (drop 8 l))
      | no h ↦
          let short : length (drop (8 * n) (drop 8 l)) < 8 = omega (arith, length-drop (8 * n) (drop 8 l), length-drop 8 l) in
          rw (e, entries_none l (omega arith), entries_none (drop (8 * n) (drop 8 l)) short) (sym (drop-nil (suc n)))
    ]

-- the part from a on is the rest
pub rest : (a : ℕ) (t : List ℕ) → take (length t - a) (drop a t) ≡ drop a t
rest a t = take_all (length t - a) (drop a t) (omega (arith, length-drop a t))

-- as the code lends it
pub entries-rest : (n : ℕ) (t : List ℕ) → entries_of (take (length t - 8 * n) (drop (8 * n) t)) ≡ drop n (entries_of t)
entries-rest n t = rw (rest (8 * n) t) (entries-drop n t)

-- ── the one at a place ──
-- a number in a part that begins at k
pub half-part : (l : List ℕ) (k i : ℕ) → half_at (drop k l) i ≡ half_at l (k + i)
half-part l k i = rw (get_or-drop k l i 0, get_or-drop k l (i + 1) 0, ← add_assoc k i 1)

pub word-part : (l : List ℕ) (k i : ℕ) → word_at (drop k l) i ≡ word_at l (k + i)
word-part l k i =
    rw (
      get_or-drop k l i 0,
      get_or-drop k l (i + 1) 0,
      get_or-drop k l (i + 2) 0,
      get_or-drop k l (i + 3) 0,
      ← add_assoc k i 1,
      ← add_assoc k i 2,
      ← add_assoc k i 3,
    )

pub entry_here : (l : List ℕ) (p : ℕ) → p < length l / 8 → drop p (entries_of l) ≡ entry_at l p ∷ drop (p + 1) (entries_of l)
entry_here l p h =
    let k : 8 * p + 8 ≡ 8 * (p + 1) = omega arith in
    sym (entries-drop p l) ∙ entries-some (drop (8 * p) l) (omega (arith, length-drop (8 * p) l))
    ∙ rw (half-part l (8 * p) 0, half-part l (8 * p) 2, word-part l (8 * p) 4, add-zero (8 * p), drop-drop 8 (8 * p) l, k, entries-drop (p + 1) l)
