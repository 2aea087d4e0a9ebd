-- Laws for the proofs of the code: what fits after an instruction or a shape fits before it, and the definitions by their cases.
use Rattle.std.specs.Prelude.{◌≡◌, refl, Bool, true, false, eqb, ltb, length, get_or, drop, take, set}
use Rattle.std.proofs.Math.Path.{ap}
use Rattle.std.proofs.Common.{◌∙◌, length-drop, drop-drop, take_all, add-zero, add-one}
use mathlib.Core.List.{List, ◌++◌}
use Prim.Native.Nat.{ℕ, zero, suc, ◌+◌, ◌-◌, ◌*◌, ◌≤◌, ◌<◌}
use native.Mathlib.Omega.{arith}
use Rattle.std.proofs.Math.Seq.{sets}
use borrow.Author.Tests.{eq-eqb, ne_eqb}
use Rattle.logic.specs.Choice.{If◌then◌else◌}
use Rattle.words.specs.Numbers.{half_at}
use Rattle.table_scopes.specs.Environment.{Found, Nothing, Def, find, passing, shut, env_of, Grown}
use Rattle.table_scopes.specs.EnvironmentLaws.{top-item, grown-push, stored, fewer}
use Rattle.table_entries.specs.Entries.{half-part}
use Rattle.compile_symbols.specs.Numbers.{type_in, second_in}
use Rattle.compile_symbols.specs.Meaning.{known_of, meaning_of}
use Rattle.compile_nodes.specs.Knows.{hold_mark, passed_to}
use Rattle.compile_output.specs.declared.Cursor.{Cursor}
use Rattle.compile_output.specs.EmitRecord.{moved, cursor_shaped, emit_op, emit_shape, Fits, length-emit, length-shape}
use Rattle.compile_output.specs.EmitCode.{lets, emitted, later-moved, later-shaped, fits-before, length-emitted, Later, later-self, later_trans}
use Rattle.compile_emit.specs.EmitEntry.{emit_initial, cursor_declared, emit_declared, cursor_head, emit_head, finishes, holds_by, holds_head, cursor_between, cursor_behind}
use Rattle.compile_scopes.specs.Marks.{marks}

-- ── one record after the other ──
pub fits-op : {p : Cursor} (n : ℕ) → Fits (moved p) n → Fits p n
fits-op {p} n f = fits-before n (later-moved p) f

pub fits-mark : {p : Cursor} (n d : ℕ) → Fits (cursor_shaped d p) n → Fits p n
fits-mark {p} n d f = fits-before n (later-shaped d p) f

-- what is done next fits where all did
pub op_fits : (f : Cursor → Cursor) (p : Cursor) (l : List ℕ) (k a b : ℕ) {q : Cursor} {m : List ℕ} → (q ≡ moved p) × (m ≡ emit_op p l k a b) → Fits (f (moved p)) (length l) → Fits (f q) (length m)
op_fits f p l k a b e h = rw (e.0, e.1, length-emit p l k a b) h

pub mark-fits : (f : Cursor → Cursor) (p : Cursor) (l : List ℕ) (h d : ℕ) (ts : List ℕ) {q : Cursor} {m : List ℕ} → (q ≡ cursor_shaped d p)
    × (m ≡ emit_shape p l h d ts) → Fits (f (cursor_shaped d p)) (length l)
    → Fits (f q) (length m)
mark-fits f p l h d ts e g = rw (e.0, e.1, length-shape p l h d ts) g

-- ── between and behind two operands, by the way ──
module _ (w d : ℕ) (p : Cursor) where
  pub between-1 : w ≡ 1 → cursor_between w d p ≡ cursor_shaped (d + 1) p
  unfolding cursor_between
  between-1 e = rw e

  pub between-2 : w ≡ 2 → cursor_between w d p ≡ moved p
  unfolding cursor_between
  between-2 e = rw e

  pub between-3 : ¬ (w ≡ 0) → ¬ (w ≡ 1) → ¬ (w ≡ 2) → cursor_between w d p ≡ cursor_shaped d (moved (moved (moved p)))
  unfolding cursor_between
  between-3 a b c = rw (ne_eqb _ _ a, ne_eqb _ _ b, ne_eqb _ _ c)

  pub behind-2 : w ≡ 2 → cursor_behind w d p ≡ cursor_shaped (d + 1) (moved (cursor_shaped d (moved p)))
  unfolding cursor_behind
  behind-2 e = rw e

  pub behind-3 : w ≡ 3 → cursor_behind w d p ≡ cursor_shaped (d + 1) p
  unfolding cursor_behind
  behind-3 e = rw e

  pub behind-0 : ¬ (w ≡ 2) → ¬ (w ≡ 3) → cursor_behind w d p ≡ moved p
  unfolding cursor_behind
  behind-0 a b = rw (ne_eqb _ _ a, ne_eqb _ _ b)

-- ── heads ──
module _ (k : ℕ) (p : Cursor) where
  pub declared-10 : k ≡ 10 → cursor_declared k p ≡ moved (moved p)
  unfolding cursor_declared
  declared-10 e = rw e

  pub declared-14 : k ≡ 14 → cursor_declared k p ≡ moved p
  unfolding cursor_declared
  declared-14 e = rw e

pub initial-length : (t : ℕ) (p : Cursor) (l : List ℕ) {m : List ℕ} → m ≡ emit_initial t p l → length m ≡ length l
initial-length t p l e = ap (length {A = ℕ}) e ∙ by (ltb t 16)
  where
    by : (b : Bool) → length (If b then emit_op p l t 0 0 else emit_op p l 4 (t - 16) 0) ≡ length l
    by true = length-emit p l t 0 0
    by false = length-emit p l 4 (t - 16) 0

-- the part of a slice that begins at a place
pub part-from : (part : List ℕ) (k : ℕ) → take (length part - k) (drop k part) ≡ drop k part
part-from part k = take_all (length part - k) (drop k part) (omega (arith, length-drop k part))

later-declared : (k : ℕ) (p : Cursor) → Later p (cursor_declared k p)
unfolding cursor_declared
later-declared k p = by (eqb k 10) (eqb k 14)
  where
    by : (b c : Bool) → Later p (If b then moved (moved p) else If c then moved p else p)
    by true c = later_trans (later-moved p) (later-moved (moved p))
    by false true = later-moved p
    by false false = later-self p

pub later-head : (part : List ℕ) (n : ℕ) (p : Cursor) → Later p (cursor_head part n p)
unfolding cursor_head
later-head part zero p = later-self p
later-head part (suc n) p = later_trans (later-declared (half_at part 0) p) (later-head (drop 8 part) n (cursor_declared (half_at part 0) p))

pub length_declared : (k a known : ℕ) (p : Cursor) (l : List ℕ) → length (emit_declared k a known p l) ≡ length l
unfolding emit_declared
length_declared k a known p l = by (eqb k 10) (eqb k 14)
  where
    by : (b c : Bool) → length (If b then emit_op (moved p) (emit_initial (type_in known) p l) 6 0 (second_in known) else If c then emit_op p l 17 0 a else l) ≡ length l
    by true c = length-emit (moved p) (emit_initial (type_in known) p l) 6 0 (second_in known) ∙ initial-length (type_in known) p l refl
    by false true = length-emit p l 17 0 a
    by false false = refl

next-entry : (part : List ℕ) (i : ℕ) → drop 8 (drop (8 * i) part) ≡ drop (8 * (i + 1)) part
next-entry part i = drop-drop 8 (8 * i) part ∙ ap (λ (k : ℕ). drop k part) (let z : 8 * i + 8 ≡ 8 * (i + 1) = omega arith in z)

-- the loop's step: one declaration, and those after it
module _ (part : List ℕ) (count i : ℕ) (p : Cursor) (h : i < count) where
  left_is : count - i ≡ suc (count - (i + 1))
  left_is = omega arith

  pub cursors-step : cursor_head (drop (8 * i) part) (count - i) p ≡ cursor_head (drop (8 * (i + 1)) part) (count - (i + 1)) (cursor_declared (half_at (drop (8 * i) part) 0) p)
  unfolding cursor_head
  cursors-step = ap (λ (n : ℕ). cursor_head (drop (8 * i) part) n p) left_is ∙ ap (λ (t : List ℕ). cursor_head t (count - (i + 1)) (cursor_declared (half_at (drop (8 * i) part) 0) p)) (next-entry part i)

  pub emits-step : (known : List ℕ) (at : ℕ) (l : List ℕ)
      → emit_head (drop (8 * i) part) known (at + i) (count - i) p l
      ≡ emit_head (drop (8 * (i + 1)) part) known (at + (i + 1)) (count - (i + 1)) (cursor_declared (half_at (drop (8 * i) part) 0) p)
      (emit_declared (half_at (drop (8 * i) part) 0) (half_at (drop (8 * i) part) 2) (get_or known (at + i) 0) p l)
  unfolding emit_head
  emits-step known at l =
      let k : at + i + 1 ≡ at + (i + 1) = omega arith in
      let q = cursor_declared (half_at (drop (8 * i) part) 0) p in
      let m = emit_declared (half_at (drop (8 * i) part) 0) (half_at (drop (8 * i) part) 2) (get_or known (at + i) 0) p l in
      ap (λ (n : ℕ). emit_head (drop (8 * i) part) known (at + i) n p l) left_is
      ∙ (ap (λ (t : List ℕ). emit_head t known (at + i + 1) (count - (i + 1)) q m) (next-entry part i) ∙ ap (λ (j : ℕ). emit_head (drop (8 * (i + 1)) part) known j (count - (i + 1)) q m) k)

  pub finishes-step : (ends : List ℕ) (at : ℕ)
      → sets ends (at + i) (finishes (drop (8 * i) part) (count - i) p)
      ≡ sets (set ends (at + i) (cursor_declared (half_at (drop (8 * i) part) 0) p).address) (at + (i + 1))
      (finishes (drop (8 * (i + 1)) part) (count - (i + 1)) (cursor_declared (half_at (drop (8 * i) part) 0) p))
  unfolding finishes
  finishes-step ends at =
      let k : suc (at + i) ≡ at + (i + 1) = omega arith in
      let q = cursor_declared (half_at (drop (8 * i) part) 0) p in
      ap (λ (n : ℕ). sets ends (at + i) (finishes (drop (8 * i) part) n p)) left_is
      ∙ (ap (λ (t : List ℕ). sets (set ends (at + i) q.address) (suc (at + i)) (finishes t (count - (i + 1)) q)) (next-entry part i)
      ∙ ap (λ (j : ℕ). sets (set ends (at + i) q.address) j (finishes (drop (8 * (i + 1)) part) (count - (i + 1)) q)) k)

pub holds-step : (part : List ℕ) (count i : ℕ) → i < count → holds_head (drop (8 * i) part) (count - i) ≡ holds_by (half_at part (8 * i)) + holds_head (drop (8 * (i + 1)) part) (count - (i + 1))
unfolding holds_head
holds-step part count i h =
    let e : count - i ≡ suc (count - (i + 1)) = omega arith in
    let z : half_at (drop (8 * i) part) 0 ≡ half_at part (8 * i) = half-part part (8 * i) 0 ∙ rw (add-zero (8 * i)) in
    ap (λ (n : ℕ). holds_head (drop (8 * i) part) n) e
    ∙ (ap (λ (t : List ℕ). holds_by (half_at (drop (8 * i) part) 0) + holds_head t (count - (i + 1))) (next-entry part i)
    ∙ ap (λ (k : ℕ). holds_by k + holds_head (drop (8 * (i + 1)) part) (count - (i + 1))) z)

pub heads-none : (part known ends l : List ℕ) (at n : ℕ) (p : Cursor) → n ≡ 0 → (cursor_head part n p ≡ p) × (emit_head part known at n p l ≡ l)
    × (sets ends at (finishes part n p) ≡ ends) × (holds_head part n ≡ 0)
unfolding cursor_head emit_head finishes holds_head
heads-none part known ends l at n p e = rw e (refl, refl, refl, refl)

-- ── holds among the names in sight ──
pub marks-push : (old env new : List ℕ) (top i : ℕ) → 4 * (top + i + 1) ≤ length env → Grown top old env (top + i) (marks i ++ env_of old top) i → new ≡ stored env (top + i) hold_mark 0 0 0
    → Grown top old new (top + (i + 1)) (marks (i + 1) ++ env_of old top) (i + 1)
unfolding marks
marks-push old env new top i h g e =
    let k = grown-push env new (top + i) hold_mark 0 0 0 h e in
    let z : top + i + 1 ≡ top + (i + 1) = omega arith in
    record {
      now = rw (← z, add-one i) (k.now ∙ rw g.now);
      kept = fewer new env top (top + i) (omega arith) k.kept ∙ g.kept;
      same = k.same ∙ g.same;
      least = omega arith;
      most = omega arith;
    }

pub marks-start : (l : List ℕ) (top : ℕ) → Grown top l l (top + 0) (marks 0 ++ env_of l top) 0
unfolding marks
marks-start l top = record { now = rw (add-zero top); kept = refl; same = refl; least = omega arith; most = omega arith }

module _ (l : List ℕ) (a i : ℕ) (h : 0 < i) where
  pub passed-hit : get_or l (4 * (i - 1)) 0 ≡ a → passed_to a (env_of l i) ≡ 0
  unfolding passed_to
  passed-hit e = rw (top-item l i h, eq-eqb _ _ e)

  pub passed-hold : ¬ (get_or l (4 * (i - 1)) 0 ≡ a) → get_or l (4 * (i - 1)) 0 ≡ 65539 → passed_to a (env_of l i) ≡ suc (passed_to a (env_of l (i - 1)))
  unfolding passed_to
  passed-hold e k = rw (top-item l i h, ne_eqb _ _ e, eq-eqb _ _ k)

  pub passed-other : ¬ (get_or l (4 * (i - 1)) 0 ≡ a) → ¬ (get_or l (4 * (i - 1)) 0 ≡ 65539) → passed_to a (env_of l i) ≡ passed_to a (env_of l (i - 1))
  unfolding passed_to
  passed-other e k = rw (top-item l i h, ne_eqb _ _ e, ne_eqb _ _ k)

pub passed_none : (l : List ℕ) (a i : ℕ) → i ≡ 0 → passed_to a (env_of l i) ≡ 0
unfolding passed_to env_of
passed_none l a i e = rw e

-- what a name stands for, whatever lies between
passing-known : (known : List ℕ) (b : Bool) (f : Found) → known_of known (passing b f) ≡ known_of known f
passing-known known b Nothing = refl
passing-known known b (Def s n q w) = refl

module _ (l known : List ℕ) (a i : ℕ) (h : 0 < i) where
  pub meant-hit : get_or l (4 * (i - 1)) 0 ≡ a → meaning_of a (env_of l i) known ≡ get_or known (get_or l (4 * (i - 1) + 3) 0) 0
  unfolding find
  meant-hit e = rw (top-item l i h, eq-eqb _ _ e)

  pub meant-miss : ¬ (get_or l (4 * (i - 1)) 0 ≡ a) → meaning_of a (env_of l i) known ≡ meaning_of a (env_of l (i - 1)) known
  unfolding find
  meant-miss e = rw (top-item l i h, ne_eqb _ _ e) (passing-known known (eqb (get_or l (4 * (i - 1)) 0) shut) (find a (env_of l (i - 1))))

pub meant-none : (l known : List ℕ) (a i : ℕ) → i ≡ 0 → meaning_of a (env_of l i) known ≡ 0
unfolding find env_of
meant-none l known a i e = rw e

-- releases, and what follows
pub lets-length : (n : ℕ) (p : Cursor) (l : List ℕ) {m : List ℕ} → m ≡ emitted (lets n) p l → length m ≡ length l
lets-length n p l e = ap (length {A = ℕ}) e ∙ length-emitted (lets n) p l

pub holds-one : (k : ℕ) → holds_by k ≤ 1
holds-one k = by (eqb k 14)
  where
    by : (b : Bool) → (If b then 1 else 0) ≤ 1
    by true = omega arith
    by false = omega arith

pub holds-none : (part : List ℕ) (n : ℕ) → n ≡ 0 → holds_head part n ≡ 0
unfolding holds_head
holds-none part n e = rw e
