-- The sizes of a table's entries: how many entries stand from each up to the end of what is below it. The reader writes them as it reads, from a
-- place on, and no later pass reads what it only passes by.
use Rattle.std.specs.Prelude.{◌≡◌, refl, List, ℕ, zero, suc, ◌+◌, ◌-◌, ◌/◌, ◌≤◌, ◌<◌, length, drop, get_or, set}
use Rattle.std.proofs.Common.{ap, sym, ◌∙◌, arith, add-zero, zero-add, length-drop, drop-drop, get_or-set_same, get_or-set_other}
use Rattle.std.proofs.Math.Decide.{dec_lt}
use Rattle.language.specs.Table.{Entry}
use Rattle.language_laws.specs.Claims.{entries_of}
use Rattle.table_entries.specs.Entries.{entries-length}
use Rattle.table_entries.specs.Spans.{span, span-within}

-- the sizes of all entries of a table
pub record Known (l sizes : List ℕ) : Type 0 where
  pub wide : length l / 8 ≤ length sizes
  pub sized : (j : ℕ) → j < length l / 8 → get_or sizes j 0 ≡ span 1 (drop j (entries_of l))

-- a size is no larger than the table
pub size_small : (l : List ℕ) (from parts n : ℕ) → n ≡ span parts (drop from (entries_of l)) → n ≤ length l / 8
size_small l from parts n e = omega (arith, span-within (drop from (entries_of l)) parts, length-drop from (entries_of l), entries-length l)

-- the sizes of n entries are written from a place on, and none before it are touched
pub record Sized (es : List Entry) (at n : ℕ) (old new : List ℕ) : Type 0 where
  pub sized : (j : ℕ) → j < n → get_or new (at + j) 0 ≡ span 1 (drop j es)
  pub kept : (j : ℕ) → j < at → get_or new j 0 ≡ get_or old j 0

pub sized-none : (es : List Entry) (at : ℕ) (old : List ℕ) → Sized es at 0 old old
sized-none es at old = record { sized = λ j h. absurd (omega arith); kept = λ j h. refl }

-- some, and then those behind them
pub sized-then : {es : List Entry} {at m n : ℕ} {old mid new : List ℕ} → Sized es at m old mid → Sized (drop m es) (at + m) n mid new → Sized es at (m + n) old new
sized-then {es} {at} {m} {n} {old} {mid} {new} h k = record { sized = all; kept = λ j l. k.kept j (omega arith) ∙ h.kept j l }
  where
    all : (j : ℕ) → j < m + n → get_or new (at + j) 0 ≡ span 1 (drop j es)
    all j l =
        elim (dec_lt j m) [
          | yes y ↦ k.kept (at + j) (omega arith) ∙ h.sized j y
          | no y ↦
              let e : m + (j - m) ≡ j = omega arith in
              let p : at + j ≡ at + m + (j - m) = omega arith in
              ap (λ (i : ℕ). get_or new i 0) p ∙ k.sized (j - m) (omega arith) ∙ ap (λ (us : List Entry). span 1 us) (drop-drop (j - m) m es ∙ ap (λ (i : ℕ). drop i es) e)
        ]

-- those below an entry, and then its own
pub sized-entry : {es : List Entry} {at n : ℕ} {old new : List ℕ} → Sized (drop 1 es) (at + 1) n old new → at < length new → 1 + n ≡ span 1 es
    → Sized es at (1 + n) old (set new at (1 + n))
sized-entry {es} {at} {n} {old} {new} h w e =
    record { sized = all; kept = λ j l. get_or-set_other new at j (1 + n) 0 (λ q. omega arith) ∙ h.kept j (omega arith) }
  where
    all : (j : ℕ) → j < 1 + n → get_or (set new at (1 + n)) (at + j) 0 ≡ span 1 (drop j es)
    all zero l = rw (add-zero at) (get_or-set_same new at (1 + n) 0 w ∙ e)
    all (suc j) l =
        let p : at + suc j ≡ at + 1 + j = omega arith in
        let k : 1 + j ≡ suc j = omega arith in
        rw p (get_or-set_other new at (at + 1 + j) (1 + n) 0 (λ q. omega arith) ∙ h.sized j (omega arith)
        ∙ ap (λ (us : List Entry). span 1 us) (drop-drop j 1 es ∙ ap (λ (i : ℕ). drop i es) k))

-- all of a table
pub sized-known : {l old new : List ℕ} {n : ℕ} → Sized (entries_of l) 0 n old new → n ≡ length l / 8 → length l / 8 ≤ length new → Known l new
sized-known {new = new} h e w = record { wide = w; sized = λ j q. ap (λ (i : ℕ). get_or new i 0) (sym (zero-add j)) ∙ h.sized j (omega arith) }
