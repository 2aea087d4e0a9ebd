-- What a function has done that writes text into lent bytes from an index on and answers the index after it.
use Rattle.std.specs.Prelude.{◌≡◌, refl, List, [], ◌∷◌, ◌++◌, ℕ, zero, suc, ◌+◌, ◌/◌, ◌%◌, ◌≤◌, ◌<◌, length, get_or, drop, set}
use Rattle.std.proofs.Common.{ap, sym, ◌∙◌, arith, add-suc, add-one, length-append, drop-cons}
use Rattle.std.proofs.lemmas.List.Edits.{sets}
use Rattle.std.proofs.Math.Seq.{length-sets, drop-length}
use Rattle.compile_bytes.specs.Stores.{sets-join}
use Rattle.listing_text.specs.Text.{digit, decimal, numbers, line}
use Rattle.listing_text.specs.Length.{one-digit, more-digits, one_number, two-numbers}

pub record Puts (text : List ℕ) (at : ℕ) (words after : List ℕ) (next : ℕ) : Type 0 where
  pub index : next ≡ at + length words
  pub bytes : after ≡ sets text at words

-- a whole text at the front, with room for it
pub record Lists (whole text after : List ℕ) (length-of : ℕ) : Type 0 where
  pub all : length-of ≡ length whole
  pub fits : length-of ≤ length text
  pub bytes : after ≡ sets text 0 whole

-- it is within the text
pub within_text : {whole text after : List ℕ} {n : ℕ} → Lists whole text after n → n ≤ length after
within_text {whole} {text} l = omega (arith, l.fits, ap (length {A = ℕ}) l.bytes ∙ length-sets text 0 whole)

pub in-front : (whole text after : List ℕ) (n : ℕ) → length whole ≤ length text → Puts text 0 whole after n → Lists whole text after n
in-front whole text after n h p = record { all = let e = p.index in omega arith; fits = let e = p.index in omega arith; bytes = p.bytes }

-- of a text by another name
pub fits-as : (at room : ℕ) {xs ys : List ℕ} → xs ≡ ys → at + length xs ≤ room → at + length ys ≤ room
fits-as at room e h = rw (← e) h

pub puts-as : {text after : List ℕ} {at next : ℕ} {xs ys : List ℕ} → xs ≡ ys → Puts text at ys after next → Puts text at xs after next
puts-as e p = rw e p

-- of two, one after the other: room for the first, and for the second once the first is there
pub front_fits : (at room : ℕ) (xs ys : List ℕ) → at + length (xs ++ ys) ≤ room → at + length xs ≤ room
front_fits at room xs ys h = let k = length-append xs ys in omega arith

pub back_fits : {text after : List ℕ} {at next : ℕ} {xs : List ℕ} (ys : List ℕ) → Puts text at xs after next → at + length (xs ++ ys) ≤ length text → next + length ys ≤ length after
back_fits {text} {after} {at} {next} {xs} ys p h =
    let k = length-append xs ys in let e = p.index in let l = ap length p.bytes ∙ length-sets text at xs in omega arith

pub join : (text : List ℕ) (at : ℕ) (xs ys middle after : List ℕ) (next last : ℕ)
    → Puts text at xs middle next → Puts middle next ys after last → Puts text at (xs ++ ys) after last
join text at xs ys middle after next last p q = record {
  index = let e = p.index in let f = q.index in let k = length-append xs ys in omega arith;
  bytes = q.bytes ∙ ap (λ l. sets l next ys) p.bytes ∙ sets-join text at next xs ys p.index;
}

-- one byte
pub one : (text : List ℕ) (at v : ℕ) → Puts text at (v ∷ []) (set text at v) (at + 1)
one text at v = record { index = refl; bytes = refl }

-- nothing
pub nothing : (text : List ℕ) (at : ℕ) → Puts text at [] text at
nothing text at = record { index = omega arith; bytes = refl }

-- ── a number ──
pub puts-digit : (text : List ℕ) (at n : ℕ) → n < 10 → Puts text at (decimal n) (set text at (digit n)) (at + 1)
puts-digit text at n h = rw (one-digit n h) (one text at (digit n))

pub puts-digits : (text : List ℕ) (at n : ℕ) (middle : List ℕ) (next : ℕ) → 10 ≤ n → Puts text at (decimal (n / 10)) middle next
    → Puts text at (decimal n) (set middle next (digit (n % 10))) (next + 1)
puts-digits text at n middle next h p =
    rw (more-digits n h) (join text at (decimal (n / 10)) (digit (n % 10) ∷ []) middle _ next _ p (one middle next (digit (n % 10))))

pub puts-number : (text : List ℕ) (at n : ℕ) (after : List ℕ) (next : ℕ) → Puts (set text at 32) (at + 1) (decimal n) after next → Puts text at (32 ∷ decimal n) after next
puts-number text at n after next p = join text at (32 ∷ []) (decimal n) (set text at 32) after (at + 1) next (one text at 32) p

-- ── room ──
pub decimal-room : (n : ℕ) → 10 ≤ n → length (decimal n) ≡ length (decimal (n / 10)) + 1
decimal-room n h = ap length (more-digits n h) ∙ length-append (decimal (n / 10)) (digit (n % 10) ∷ [])

pub decimal-some : (n : ℕ) → n < 10 → length (decimal n) ≡ 1
decimal-some n h = ap length (one-digit n h)

-- ── a word, byte by byte ──
-- what is left to be written of it
pub word-step : (text word : List ℕ) (at i : ℕ) → i < length word → sets text (at + i) (drop i word) ≡ sets (set text (at + i) (get_or word i 0)) (at + (i + 1)) (drop (i + 1) word)
word-step text word at i h = rw (drop-cons word i 0 h, add-one i, add-suc at i)

pub word-done : (text₀ text word : List ℕ) (at i : ℕ) → length word ≤ i → i ≤ length word → sets text (at + i) (drop i word) ≡ sets text₀ at word → Puts text₀ at word text (at + i)
word-done text₀ text word at i h k e =
    let d : i ≡ length word = omega arith in
    record { index = ap (λ n. at + n) d; bytes = sym (ap (λ l. sets text (at + i) l) (ap (λ n. drop n word) d ∙ drop-length word)) ∙ e }

-- ── lines ──
pub puts-line-1 : (text word : List ℕ) (at n : ℕ) (l m after : List ℕ) (a b next : ℕ)
    → Puts text at word l a → Puts l a (32 ∷ decimal n) m b → Puts m b (10 ∷ []) after next → Puts text at (line word (n ∷ [])) after next
unfolding numbers
puts-line-1 text word at n l m after a b next p q r =
    join text at word (numbers (n ∷ [])) l after a next p (join l a (32 ∷ decimal n) (10 ∷ []) m after b next q r)

pub puts-line-2 : (text word : List ℕ) (at i n : ℕ) (k l m after : List ℕ) (a b c next : ℕ)
    → Puts text at word k a → Puts k a (32 ∷ decimal i) l b → Puts l b (32 ∷ decimal n) m c → Puts m c (10 ∷ []) after next
    → Puts text at (line word (i ∷ (n ∷ []))) after next
unfolding numbers
puts-line-2 text word at i n k l m after a b c next p q r s =
    join text at word (numbers (i ∷ (n ∷ []))) k after a next p
    (join k a (32 ∷ decimal i) (numbers (n ∷ [])) l after b next q (join l b (32 ∷ decimal n) (10 ∷ []) m after c next r s))

-- the numbers of a line, one by one: what is left of them from the i-th on
pub next-number : (ns : List ℕ) (i : ℕ) → i < length ns → numbers (drop i ns) ≡ (32 ∷ decimal (get_or ns i 0)) ++ numbers (drop (i + 1) ns)
unfolding numbers
next-number ns i h = rw (drop-cons ns i 0 h, add-one i)

pub no-number : (ns : List ℕ) (i : ℕ) → length ns ≤ i → numbers (drop i ns) ≡ (10 ∷ []) ++ []
unfolding numbers
no-number [] zero h = refl
no-number [] (suc i) h = refl
no-number (n ∷ ns) zero h = absurd (omega arith)
no-number (n ∷ ns) (suc i) h = no-number ns i (omega arith)

pub room-1 : (word : List ℕ) (n : ℕ) → length (line word (n ∷ [])) ≡ length word + (length (decimal n) + 2)
room-1 word n = length-append word (numbers (n ∷ [])) ∙ ap (λ k. length word + k) (one_number n)

pub room-2 : (word : List ℕ) (m n : ℕ) → length (line word (m ∷ (n ∷ []))) ≡ length word + (length (decimal m) + length (decimal n) + 3)
room-2 word m n = length-append word (numbers (m ∷ (n ∷ []))) ∙ ap (λ k. length word + k) (two-numbers m n)

-- ── a text, line by line ──
-- what is left finishes the text, which begins at an index
pub record Left (text₀ : List ℕ) (from : ℕ) (whole text : List ℕ) (at : ℕ) (rest : List ℕ) : Type 0 where
  pub index : at + length rest ≡ from + length whole
  pub bytes : sets text at rest ≡ sets text₀ from whole
  pub long : length text ≡ length text₀

pub begun : (text : List ℕ) (from : ℕ) (whole : List ℕ) → Left text from whole text from whole
begun text from whole = record { index = refl; bytes = refl; long = refl }

module _ (text₀ : List ℕ) (from : ℕ) (whole text : List ℕ) (at : ℕ) (rest : List ℕ) (l : Left text₀ from whole text at rest) where
  pub room-left : (xs ys : List ℕ) → rest ≡ xs ++ ys → from + length whole ≤ length text₀ → at + length xs ≤ length text
  room-left xs ys e h = let k = l.index in let g = l.long in let i = ap length e in let j = length-append xs ys in omega arith

  pub goes_left : (xs ys after : List ℕ) (next : ℕ) → rest ≡ xs ++ ys → Puts text at xs after next → Left text₀ from whole after next ys
  goes_left xs ys after next e p = record {
    index = let k = l.index in let g = p.index in let i = ap length e in let j = length-append xs ys in omega arith;
    bytes = ap (λ x. sets x next ys) p.bytes ∙ sets-join text at next xs ys p.index ∙ ap (λ x. sets text at x) (sym e) ∙ l.bytes;
    long = ap length p.bytes ∙ length-sets text at xs ∙ l.long;
  }

  pub finished : rest ≡ [] → Puts text₀ from whole text at
  finished e = record {
    index = let k = l.index in let i = ap length e in omega arith;
    bytes = sym (ap (λ x. sets text at x) e) ∙ l.bytes;
  }
