-- The bytes of a state with all that is not in use made 0, as a function of the bytes: in what order code may do it, and how such a
-- clearing of parts is put together.
use Rattle.std.specs.Prelude.{◌≡◌, refl, List, [], ◌∷◌, ◌++◌, ℕ, zero, suc, ◌+◌, ◌*◌, ◌-◌, ◌≤◌, eqb, length, take}
use Rattle.std.proofs.Common.{◌∙◌, append_assoc, arith, length-append, drop_at}
use Rattle.std.proofs.Math.Option.{Option, none, some}
use Rattle.std.proofs.Math.ListN.{get_elem?}
use Rattle.std.proofs.lemmas.List.Edits.{sets, sets-eq}
use Rattle.std.proofs.Math.Seq.{take-append-add, drop-append-add}
use Rattle.std.proofs.lemmas.List.{take-append-le}
use Rattle.logic.specs.Choice.{If◌then◌else◌}
use Rattle.words.specs.Numbers.{byte_at, half_at}
use Rattle.values.specs.Types.{Ty}
use Rattle.bytecode.specs.Macro.{Macro}
use Rattle.bytecode.specs.Instructions.{body_at, cells_of}
use Rattle.bytecode.specs.State.{zeros}
use Rattle.bytecode_layout.specs.Parts.{length-zeros}

-- bytes that are not in use: where they begin, and where what follows them begins
pub record Gap : Type 0 where
  pub from : ℕ
  pub to : ℕ

infix 10 ◌⋯◌
abbrev pub ◌⋯◌ : ℕ → ℕ → Gap
a ⋯ b = record { from = a; to = b }

-- these made 0, counted from a base
abbrev pub wipes : List ℕ → ℕ → List Gap → List ℕ
wipes l b [] = l
wipes l b (g ∷ gs) = wipes (sets l (b + g.from) (zeros (g.to - g.from))) b gs

-- ── what is not in use ──
-- in an activation with c cells and d operands, and in a record with k fields
abbrev pub activation_gaps : ℕ → ℕ → List Gap
activation_gaps c d = (3 ⋯ 4) ∷ (6 ⋯ 8) ∷ (8 + 4 * c ⋯ 136) ∷ (136 + 4 * d ⋯ 264) ∷ (264 + c ⋯ 296) ∷ (296 + d ⋯ 328) ∷ []

abbrev pub record_gaps : ℕ → List Gap
record_gaps k = (1 ⋯ 4) ∷ (4 + 4 * k ⋯ 36) ∷ (36 + k ⋯ 44) ∷ []

abbrev pub cell_count : Macro → ℕ → ℕ
cell_count m k = length (cells_of (body_at m k))

abbrev fields_in : Option (List Ty) → List Ty
fields_in none = []
fields_in (some ts) = ts

abbrev pub field_count : Macro → ℕ → ℕ
field_count m c = length (fields_in (get_elem? m.classes c))

-- n activations from a base on, and n records
unfoldable pub clear_activations : Macro → ℕ → ℕ → List ℕ → List ℕ
clear_activations m zero b l = l
clear_activations m (suc n) b l = clear_activations m n (b + 328) (wipes l b (activation_gaps (cell_count m (byte_at l b)) (byte_at l (b + 1))))

unfoldable pub clear_records : Macro → ℕ → ℕ → List ℕ → List ℕ
clear_records m zero b l = l
clear_records m (suc n) b l = clear_records m n (b + 44) (wipes l b (record_gaps (field_count m (byte_at l b))))

-- n activations, r records, h open holds
unfoldable pub clear_running : Macro → ℕ → ℕ → ℕ → List ℕ → List ℕ
clear_running m n r h l =
    let header = wipes l 0 ((1 ⋯ 2) ∷ (3 ⋯ 4) ∷ (8 ⋯ 32) ∷ []) in
    let activations = wipes (clear_activations m n 32 header) 0 ((32 + 328 * n ⋯ 10528) ∷ (10528 + h ⋯ 11040) ∷ []) in
    wipes (clear_records m r 11040 activations) 0 ((11040 + 44 * r ⋯ 24576) ∷ [])

unfoldable pub cleared : Macro → List ℕ → List ℕ
cleared m l =
    If eqb (byte_at l 0) 0 then clear_running m (byte_at l 2) (half_at l 4) (half_at l 6) l else
    If eqb (byte_at l 0) 1 then wipes l 0 ((2 ⋯ 6) ∷ (8 ⋯ 10528) ∷ (10528 + half_at l 6 ⋯ 24576) ∷ []) else wipes l 0 ((2 ⋯ 24576) ∷ [])

-- ── clearing part by part: x, which stands at offset o from the base, becomes y ──
pub record Clears (b o : ℕ) (gs : List Gap) (x y : List ℕ) : Type 0 where
  pub becomes : (p q : List ℕ) → length p ≡ b + o → wipes (p ++ (x ++ q)) b gs ≡ p ++ (y ++ q)

wipes-append : (l : List ℕ) (b : ℕ) (gs hs : List Gap) → wipes l b (gs ++ hs) ≡ wipes (wipes l b gs) b hs
wipes-append l b [] hs = refl
wipes-append l b (g ∷ gs) hs = wipes-append (sets l (b + g.from) (zeros (g.to - g.from))) b gs hs

module _ (b o : ℕ) where
  pub kept-part : (x : List ℕ) → Clears b o [] x x
  kept-part x = record { becomes = λ p q e. refl }

  -- all but the first k of n
  pub cleared-from : (k n : ℕ) (x : List ℕ) → length x ≡ n → k ≤ n → Clears b o ((o + k ⋯ o + n) ∷ []) x (take k x ++ zeros (n - k))
  cleared-from k n x wide h = record {
    becomes = λ p q e.
        let d : o + n - (o + k) ≡ n - k = omega arith in
        let i : b + (o + k) ≡ length p + k = omega arith in
        let j : length p + k + length (zeros (n - k)) ≡ length p + n = rw (length-zeros (n - k)) (omega arith) in
        let l : length (p ++ (x ++ q)) ≡ length p + (n + length q) = simp length-append (rw wide) in
        rw (d, i) (sets-eq (zeros (n - k)) (p ++ (x ++ q)) (length p + k) (omega arith)
        ∙ rw (j, take-append-add p (x ++ q) k, take-append-le k x q (omega arith), drop-append-add p (x ++ q) n, drop_at x q n wide) (simp append_assoc));
  }

-- one part and the next
pub both-parts : {b o o' : ℕ} {gs hs : List Gap} {x y x' y' : List ℕ} → o + length x ≡ o' → length y ≡ length x → Clears b o gs x y → Clears b o' hs x' y'
    → Clears b o (gs ++ hs) (x ++ x') (y ++ y')
both-parts {b} {o} {o'} {gs} {hs} {x} {y} {x'} {y'} i j f g = record {
  becomes = λ p q e.
      let n : length (p ++ y) ≡ b + o' = length-append p y ∙ rw (e, j) (omega arith) in
      rw (wipes-append (p ++ ((x ++ x') ++ q)) b gs hs, append_assoc x x' q, f.becomes p (x' ++ q) e, ← append_assoc p y (x' ++ q), g.becomes (p ++ y) q n) (simp append_assoc);
}

-- the same under other names
pub clears-as : {b o : ℕ} {gs : List Gap} {x y x' y' : List ℕ} → x' ≡ x → y ≡ y' → Clears b o gs x y → Clears b o gs x' y'
clears-as e i c = rw (e, ← i) c
