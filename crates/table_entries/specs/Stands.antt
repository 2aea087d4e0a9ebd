-- Entries that stand at a place of a table, and what is read where one stands.
use Rattle.std.specs.Prelude.{◌≡◌, List, [], ◌∷◌, ◌++◌, ℕ, ◌+◌, ◌*◌, ◌/◌, ◌≤◌, ◌<◌, pos, length, drop}
use Rattle.std.proofs.Common.{ap, sym, ◌∙◌, append_assoc, arith, length-append, length-drop, drop_at, drop-drop}
use Rattle.words.specs.Numbers.{half_at, word_at, integer_of, word_of}
use Rattle.words.specs.Laws.{word_back}
use Rattle.language.specs.Table.{Entry}
use Rattle.language_laws.specs.Claims.{entries_of}
use Rattle.table_entries.specs.Entries.{entries-length, entry_at, entry_here}

pub record Stands (es : List Entry) (p : ℕ) (us : List Entry) : Type 0 where
  pub rest : List Entry
  pub split : drop p es ≡ us ++ rest

module _ {es : List Entry} {p : ℕ} where
  pub stands-left : (us vs : List Entry) → Stands es p (us ++ vs) → Stands es p us
  stands-left us vs h = record { rest = vs ++ h.rest; split = h.split ∙ append_assoc us vs h.rest }

  pub stands-right : (us vs : List Entry) → Stands es p (us ++ vs) → Stands es (p + length us) vs
  stands-right us vs h =
      record { rest = h.rest; split = sym (drop-drop (length us) p es) ∙ rw (h.split, append_assoc us vs h.rest, drop_at us (vs ++ h.rest)) }

  pub stands-tail : (e : Entry) (us : List Entry) → Stands es p (e ∷ us) → Stands es (p + 1) us
  stands-tail e us h = stands-right (e ∷ []) us h

  -- as many entries as there are
  pub stands-within : (e : Entry) (us : List Entry) → Stands es p (e ∷ us) → p + length (e ∷ us) ≤ length es
  stands-within e us h = omega (arith, length-drop p es, ap length h.split, length-append (e ∷ us) h.rest)

-- what is read where an entry stands: its fields, within the table
pub record Fields (l : List ℕ) (p : ℕ) (e : Entry) : Type 0 where
  pub kind : half_at l (8 * p) ≡ e.kind
  pub a : half_at l (8 * p + 2) ≡ e.a
  pub b : integer_of (word_at l (8 * p + 4)) ≡ e.b
  pub within : 8 * (p + 1) ≤ length l

pub fields : (l : List ℕ) (p : ℕ) (e : Entry) (us : List Entry) → Stands (entries_of l) p (e ∷ us) → Fields l p e
fields l p e us h =
    let w : p < length l / 8 = omega (arith, stands-within e us h, entries-length l) in
    let z : entry_at l p ∷ drop (p + 1) (entries_of l) ≡ e ∷ (us ++ h.rest) = sym (entry_here l p w) ∙ h.split in
    let y : entry_at l p ≡ e = cc in
    record { kind = ap (λ (x : Entry). x.kind) y; a = ap (λ (x : Entry). x.a) y; b = ap (λ (x : Entry). x.b) y; within = omega arith }

-- a count in a field of 32 bits
pub field-number : (w n : ℕ) → w < 4294967296 → integer_of w ≡ pos n → w ≡ word_of (pos n)
field-number w n h e = sym (word_back w h) ∙ ap word_of e
