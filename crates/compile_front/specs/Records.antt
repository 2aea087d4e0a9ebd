-- CL and BD records as they are written, and the parts of a table that they are written from.
use Rattle.std.specs.Prelude.{◌≡◌, refl, ℕ, ◌+◌, ◌-◌, ◌*◌, ◌/◌, ◌%◌, ◌≤◌, ◌<◌, set, get_or}
use Rattle.std.proofs.Math.Path.{ap}
use Rattle.std.proofs.Common.{sym, ◌∙◌, arith, drop_at, drop-drop, length-take-le}
use mathlib.Core.List.{List, [], ◌∷◌, ◌++◌, map}
use Rattle.std.proofs.Math.Numerals.{towards_suc}
use Rattle.std.proofs.Math.ListN.{length, drop, length-append, length-drop}
use Rattle.std.proofs.lemmas.List.Edits.{sets}
use Rattle.std.proofs.Math.Seq.{take_all}
use borrow.Author.Tests.{ne_eqb}
use Rattle.language.specs.Tree.{locals}
use Rattle.language.specs.Program.{flat_decl, flat_items, flat_head, flatten}
use Rattle.words.specs.Numbers.{half_at, word_at, word_of}
use Rattle.words.specs.Laws.{Bytes, four, number-below, word_back}
use Rattle.language.specs.Table.{Entry}
use Rattle.language_laws.specs.Claims.{entries_of}
use Rattle.table_entries.specs.Entries.{entry_at, length-entries}
use Rattle.compile_bytes.specs.Stores.{sets-comm, sets-join}
use Rattle.compile_symbols.specs.Tabled.{Headed, the_tree, classes_in, Within, between, between-entry, part_at}
use Rattle.compile_front.specs.Types.{types_of, types-end}
use Rattle.compile_front.specs.Bodies.{body_of}
use Rattle.compile_front.specs.Writing.{Wrote, wrote_as, wrote_then}
use Rattle.compile_front.specs.Front.{body_head, class_part, body_part, Brief, variables_from, variables_front, root_types, after_head}

-- ── records ──
pub class-wrote : {old new ts : List ℕ} {at n r : ℕ} → Wrote (set (set (set old at 67) (at + 1) 76) (at + 2) n) (at + 3) ts new r → Wrote old at (67 ∷ 76 ∷ n ∷ ts) new r
class-wrote {old} {new} {ts} {at} {n} {r} h = record { written = h.written ∙ simp towards_suc; ends = omega (arith, h.ends) }

-- the cells' types are written first, and then what stands before them
pub body-wrote : {old mid new ts : List ℕ} {at r : ℕ} (first p q n : ℕ) → Wrote old (at + 7) ts mid r → new ≡ sets mid at (body_head first p q n)
    → n ≡ length ts → Wrote old at (body_of first p q ts) new r
body-wrote {old} {mid} {new} {ts} {at} {r} first p q n h e k =
    let hd = body_head first p q (length ts) in
    let z : sets mid at (body_head first p q n) ≡ sets mid at hd = ap (λ (i : ℕ). sets mid at (body_head first p q i)) k in
    record {
      written =
          e ∙ (z ∙ (ap (λ (m : List ℕ). sets m at hd) h.written ∙ (sets-comm old (at + 7) at ts hd (omega arith) ∙ sets-join old at (at + 7) hd ts refl)));
      ends = omega (arith, h.ends);
    }

-- ── the part at a place ──
between-length : (l : List ℕ) (a b : ℕ) → a ≤ b → b ≤ length l / 8 → length (between a b (entries_of l)) ≡ b - a
between-length l a b h k = length-take-le (b - a) (drop a (entries_of l)) (omega (arith, length-drop a (entries_of l), length-entries (length l / 8) l))

module _ (l sizes : List ℕ) (place : ℕ) (w : Within l sizes place) (end : ℕ) (e : end ≡ place + get_or sizes place 0) where
  part-is : part_at l sizes place ≡ entry_at l place ∷ between (place + 1) end (entries_of l)
  part-is = rw e (between-entry l place (place + get_or sizes place 0) (omega (arith, w.some)) w.within)

  pub class-part : half_at l (8 * place) ≡ 11
      → class_part (classes_in l) (part_at l sizes place) ≡ 67 ∷ 76 ∷ (end - (place + 1)) ∷ types_of (classes_in l) (between (place + 1) end (entries_of l)) []
  unfolding class_part
  class-part k = rw (part-is, k, between-length l (place + 1) end (omega (arith, w.some)) (omega (arith, w.within)))

  pub class-no : ¬ (half_at l (8 * place) ≡ 11) → class_part (classes_in l) (part_at l sizes place) ≡ []
  unfolding class_part
  class-no k = rw (part-is, ne_eqb (half_at l (8 * place)) 11 k)

  module _ (b : Bytes l) where
    word-here : word_of (entry_at l place).b ≡ word_at l (8 * place + 4)
    word-here = word_back (word_at l (8 * place + 4)) (number-below l b (8 * place + 4) four)

    pub body-part : (a : ℕ) → half_at l (8 * place) ≡ 12
        → body_part (classes_in l) a (part_at l sizes place) ≡ body_of a (word_at l (8 * place + 4) / 256) (word_at l (8 * place + 4) % 256)
        (types_of (classes_in l) (between (place + 1) end (entries_of l)) [])
    unfolding body_part
    body-part a k = rw (part-is, k, word-here)

    pub brief-part : Brief l (part_at l sizes place) → (word_at l (8 * place + 4) < 65536) × (length (types_of (classes_in l) (between (place + 1) end (entries_of l)) []) ≤ 255)
    unfolding Brief
    brief-part h = let y = rw part-is at h in (rw word-here at y.0, y.1)

  pub body-no : (a : ℕ) → ¬ (half_at l (8 * place) ≡ 12) → body_part (classes_in l) a (part_at l sizes place) ≡ []
  unfolding body_part
  body-no a k = rw (part-is, ne_eqb (half_at l (8 * place)) 12 k)

-- ── the root's items ──
module _ {l sizes : List ℕ} {count : ℕ} (h : Headed l sizes count) (from : ℕ) (e : from ≡ after_head l) where
  pub after-within : from ≤ length l / 8
  unfolding flatten
  after-within =
      let t = the_tree l in
      omega (arith, ap length h.tabled.same, length-append (flat_head t.head) (flat_items t.items), length-entries (length l / 8) l)

  pub items-are : between from (length l / 8) (entries_of l) ≡ flat_items (the_tree l).items
  unfolding flatten
  items-are =
      let t = the_tree l in let us = flat_head t.head in let vs = flat_items t.items in
      let d : drop 1 (entries_of l) ≡ us ++ vs = ap (λ (es : List Entry). drop 1 es) h.tabled.same in
      let z : drop from (entries_of l) ≡ vs = rw e (sym (drop-drop (length us) 1 (entries_of l)) ∙ rw d (drop_at us vs (length us) refl)) in
      take_all (length l / 8 - from) (drop from (entries_of l)) (omega (arith, length-drop from (entries_of l), length-entries (length l / 8) l)) ∙ z

pub root-split : (l : List ℕ) → root_types l ≡ variables_front l ++ types_of (classes_in l) (flat_items (the_tree l).items) []
unfolding variables_from
root-split l = types-end (classes_in l) (map flat_decl (locals (the_tree l).head)) (types_of (classes_in l) (flat_items (the_tree l).items) [])

module _ {l sizes : List ℕ} {count : ℕ} (h : Headed l sizes count) (from : ℕ) (e : from ≡ after_head l) where
  pub root-rest : variables_front l ++ types_of (classes_in l) (between from (length l / 8) (entries_of l)) [] ≡ root_types l
  root-rest = ap (λ (us : List Entry). variables_front l ++ types_of (classes_in l) us []) (items-are h from e) ∙ sym (root-split l)

  pub root-length : length (variables_front l) + length (types_of (classes_in l) (between from (length l / 8) (entries_of l)) []) ≡ length (root_types l)
  root-length = sym (length-append (variables_front l) (types_of (classes_in l) (between from (length l / 8) (entries_of l)) [])) ∙ ap length root-rest

  pub root-wrote : {old mid new : List ℕ} {p q r : ℕ} → Wrote old p (variables_front l) mid q
      → Wrote mid q (types_of (classes_in l) (between from (length l / 8) (entries_of l)) []) new r → Wrote old p (root_types l) new r
  root-wrote v w = wrote_as (wrote_then v w) root-rest
