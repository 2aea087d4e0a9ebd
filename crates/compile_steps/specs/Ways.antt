-- Binary operators: how the second operand follows the first, the code between and behind them, the type of the result.
use Rattle.std.specs.Prelude.{◌≡◌, true, false, List, [], ◌∷◌, ◌++◌, ℕ, suc, ◌+◌, ◌%◌, ◌<◌, eqb, length, get_or, set}
use Rattle.std.proofs.Math.Path.{refl, ap}
use Rattle.std.proofs.Common.{sym, add-zero, ne_eqb}
use Rattle.std.proofs.Math.Option.{Option, none, some}
use native.Mathlib.Omega.{arith}
use Rattle.std.proofs.lemmas.List.Edits.{sets}
use Rattle.logic.specs.Options.{or_else}
use Rattle.values.specs.Types.{Ty, integer, logical, bits, reference, ty_byte}
use Rattle.values.specs.Values.{log}
use Rattle.values.specs.Operators.{binary, binary_code, Binary, plus, minus, times, divide, remainder, less, at_most, greater, at_least, equal, unequal, both, either, shift_left, shift_right, takes}
use Rattle.values.specs.Operators.{logical_or_bits, op_type}
use Rattle.bytecode.specs.Instructions.{push, operate, go, go_unless}
use Rattle.language.specs.Tree.{Global}
use Rattle.language.specs.Faults.{is_ty}
use Rattle.compile_code.specs.Code.{Code, nil, op, mark, ◌▸◌, At, after}
use Rattle.compile_code.specs.Compile.{Around, found, Way, plainly, marked, if_true, if_false, way_of, code_way, ty_in}
use Rattle.compile_code.specs.Encode.{rec, record_of}
use Rattle.compile_names.specs.Types.{took}
use Rattle.compile_output.specs.declared.Cursor.{Cursor}
use Rattle.compile_output.specs.EmitRecord.{moved, cursor_shaped}
use Rattle.compile_output.specs.EmitCode.{cursor_after, emitted}
use Rattle.compile_nodes.specs.Knows.{Walk}
use Rattle.compile_nodes.specs.Ends.{seconds, begins}
use Rattle.compile_nodes.specs.Ready.{Place, Lent, Kept, Wrote}
use Rattle.compile_emit.specs.EmitEntry.{way_by, waiting_by, pair_type, cursor_between, emit_between, cursor_behind, emit_behind}
use Rattle.compile_steps.specs.Parts.{lent, kept_then, kept-stack}
use Rattle.compile_steps.specs.Stages.{Stage, stage-op, stage-mark, stage-part, stage-push, stage-as, stage-hold, Finished, finished}

abbrev pub way_number : Way → ℕ
way_number plainly = 0
way_number marked = 1
way_number if_true = 2
way_number if_false = 3

far : (n : ℕ) → eqb (16 + n) 2 ≡ false
far n = let w : ¬ (16 + n ≡ 2) = omega arith in ne_eqb (16 + n) 2 w

module _ (gs : List Global) where
  pub way-number : (o : Binary) (t : Ty) → way_by (binary_code o) (ty_byte (ty_in gs t)) ≡ way_number (way_of o (is_ty logical (some t)))
  unfolding way_by
  way-number plus t = refl
  way-number minus t = refl
  way-number times t = refl
  way-number divide t = refl
  way-number remainder t = refl
  way-number less t = refl
  way-number at_most t = refl
  way-number greater t = refl
  way-number at_least t = refl
  way-number equal t = refl
  way-number unequal t = refl
  way-number both integer = refl
  way-number both logical = refl
  way-number both bits = refl
  way-number both (reference c) = rw (far _) (both-apart c)
    where
      both-apart : (c : ℕ) → 1 ≡ way_number (way_of both (is_ty logical (some (reference c))))
      both-apart c = let w : ¬ (65536 + c ≡ 2) = omega arith in rw (ne_eqb (65536 + c) 2 w)
  way-number either integer = refl
  way-number either logical = refl
  way-number either bits = refl
  way-number either (reference c) = rw (far _) (either-apart c)
    where
      either-apart : (c : ℕ) → 1 ≡ way_number (way_of either (is_ty logical (some (reference c))))
      either-apart c = let w : ¬ (65536 + c ≡ 2) = omega arith in rw (ne_eqb (65536 + c) 2 w)
  way-number shift_left t = refl
  way-number shift_right t = refl

  -- of `and` and `or` the result has the type of the first operand
  same-type : (t u r : Ty) → logical_or_bits (λ v. v ∷ v ∷ []) (t ∷ u ∷ []) ≡ some r → t ≡ r
  same-type t u r h = go (takes (logical ∷ logical ∷ []) logical (t ∷ u ∷ [])) refl h
    where
      go : (x : Option Ty) → takes (logical ∷ logical ∷ []) logical (t ∷ u ∷ []) ≡ x → or_else x (takes (bits ∷ bits ∷ []) bits (t ∷ u ∷ [])) ≡ some r → t ≡ r
      go none e k = let q = took (bits ∷ bits ∷ []) (t ∷ u ∷ []) bits r k in let a = q.0 in let b = q.1 in cc
      go (some y) e k = let q = took (logical ∷ logical ∷ []) (t ∷ u ∷ []) logical y e in let a = q.0 in let b = q.1 in cc

  pub pair-type : (o : Binary) (t u r : Ty) → op_type (binary o) (t ∷ u ∷ []) ≡ some r → pair_type (binary_code o) (ty_byte (ty_in gs t)) ≡ ty_byte (ty_in gs r)
  unfolding op_type pair_type
  pair-type plus t u r h = rw (took _ _ _ r h).1
  pair-type minus t u r h = rw (took _ _ _ r h).1
  pair-type times t u r h = rw (took _ _ _ r h).1
  pair-type divide t u r h = rw (took _ _ _ r h).1
  pair-type remainder t u r h = rw (took _ _ _ r h).1
  pair-type less t u r h = rw (took _ _ _ r h).1
  pair-type at_most t u r h = rw (took _ _ _ r h).1
  pair-type greater t u r h = rw (took _ _ _ r h).1
  pair-type at_least t u r h = rw (took _ _ _ r h).1
  pair-type equal t u r h = rw (took _ _ _ r h).1
  pair-type unequal t u r h = rw (took _ _ _ r h).1
  pair-type both t u r h = ap (λ (x : Ty). ty_byte (ty_in gs x)) (same-type t u r h)
  pair-type either t u r h = ap (λ (x : Ty). ty_byte (ty_in gs x)) (same-type t u r h)
  pair-type shift_left t u r h = let q = took (bits ∷ integer ∷ []) (t ∷ u ∷ []) bits r h in let a = q.0 in let z : t ≡ bits = cc in rw (q.1, z)
  pair-type shift_right t u r h = let q = took (bits ∷ integer ∷ []) (t ∷ u ∷ []) bits r h in let a = q.0 in let z : t ≡ bits = cc in rw (q.1, z)

-- where the second operand depends on the first, the first is logical
abbrev pub Tested : Way → Type 0 → Type 0
Tested plainly A = Unit {0}
Tested marked A = Unit {0}
Tested if_true A = A
Tested if_false A = A

-- ── the code between and behind the operands; the second begins at q and ends at `end` ──
abbrev pub code_between : Way → List Around → List Ty → Ty → At → ℕ → Code
code_between plainly Γ st t q end = nil
code_between marked Γ st t q end = mark (found Γ (t ∷ st))
code_between if_true Γ st t q end = op (go_unless (suc end))
code_between if_false Γ st t q end = op (go_unless q.address) ▸ (op (push (log true)) ▸ (op (go end) ▸ mark (found Γ st)))

abbrev pub code_behind : Way → Binary → List Around → List Ty → ℕ → Code
code_behind plainly o Γ st end = op (operate (binary o))
code_behind marked o Γ st end = op (operate (binary o))
code_behind if_true o Γ st end = op (go (suc (suc end))) ▸ (mark (found Γ st) ▸ (op (push (log false)) ▸ mark (found Γ (logical ∷ st))))
code_behind if_false o Γ st end = mark (found Γ (logical ∷ st))

abbrev pub code_parts : Way → Binary → List Around → List Ty → Ty → Code → At → (List Ty → At → Code) → Code
code_parts w o Γ st t x p f =
    let q = begins w (after x p) in let y = f (seconds w t st) q in
    x ▸ (code_between w Γ st t q (after y q).address ▸ (y ▸ (code_behind w o Γ st (after y q).address ▸ nil)))

module _ (o : Binary) (Γ : List Around) (st : List Ty) (t : Ty) (x : Code) (p : At) (f : List Ty → At → Code) (cursor : Cursor) where
  pub parts-cursor : (w : Way) → cursor_after (code_way w o Γ st t x p f) cursor ≡ cursor_after (code_parts w o Γ st t x p f) cursor
  unfolding cursor_after
  parts-cursor plainly = refl
  parts-cursor marked = refl
  parts-cursor if_true = refl
  parts-cursor if_false = refl

  pub parts-emitted : (w : Way) (l : List ℕ) → emitted (code_way w o Γ st t x p f) cursor l ≡ emitted (code_parts w o Γ st t x p f) cursor l
  unfolding cursor_after emitted
  parts-emitted plainly l = refl
  parts-emitted marked l = refl
  parts-emitted if_true l = refl
  parts-emitted if_false l = refl

-- the values on the stack while the second operand is computed
abbrev pub waits : Way → ℕ → ℕ
waits plainly d = d + 1
waits marked d = d + 1
waits if_true d = d
waits if_false d = d

pub waits-are : (w : Way) (d : ℕ) → d + waiting_by (way_number w) ≡ waits w d
waits-are plainly d = refl
waits-are marked d = refl
waits-are if_true d = add-zero d
waits-are if_false d = add-zero d

abbrev pub second_place : Way → Ty → Place → At → Place
second_place w t X q = record { around = X.around; types = seconds w t X.types; start = begins w q }

operator-byte : (o : Binary) → binary_code o ≡ binary_code o % 256
operator-byte plus = refl
operator-byte minus = refl
operator-byte times = refl
operator-byte divide = refl
operator-byte remainder = refl
operator-byte less = refl
operator-byte at_most = refl
operator-byte greater = refl
operator-byte at_least = refl
operator-byte equal = refl
operator-byte unequal = refl
operator-byte both = refl
operator-byte either = refl
operator-byte shift_left = refl
operator-byte shift_right = refl

module _ {W : Walk} {l : List ℕ} {L : Lent} {top holds depth : ℕ} {cursor : Cursor} {at : ℕ} {X : Place} (x : Code) (t : Ty) (end : ℕ) (left : Code) (es : List ℕ) {M : Lent} {p : Cursor}
    (k : Kept L M top depth) (wrote : Wrote L.out M.out cursor p x) (ends : M.ends ≡ sets L.ends (at + 1) es) (leaves : get_or M.stack depth 0 ≡ ty_byte t) (small : depth < 32)
    (b : ℕ) (target : W.dry ≡ false → b ≡ end) {out : List ℕ} {q : Cursor} where
  pub between-stage : (w : Way)
      → Stage W l L top holds depth cursor at L X depth cursor nil (x ▸ (code_between w X.around X.types t (begins w (after x X.start)) end ▸ left)) []
      → (q ≡ cursor_between (way_number w) depth p) × (out ≡ emit_between (way_number w) b holds M.stack depth p M.out)
      → Stage W l L top holds depth cursor at (lent M.env M.ends M.stack out) (second_place w t X (after x X.start)) (waits w depth) q
      ((nil ▸ x) ▸ code_between w X.around X.types t (begins w (after x X.start)) end) left ([] ++ es)
  unfolding cursor_between emit_between cursor_after emitted record_of
  between-stage plainly h j =
      let s = stage-push x (nil ▸ left) es h (at + 1) k wrote ends (omega arith) t leaves small in
      rw (j.0, j.1) (stage-as ((nil ▸ x) ▸ nil) left s refl refl refl)
  between-stage marked h j =
      let s = stage-push x (mark (found X.around (t ∷ X.types)) ▸ left) es h (at + 1) k wrote ends (omega arith) t leaves small in
      stage-mark left s j
  between-stage if_true h j =
      let s = stage-part x (op (go_unless (suc end)) ▸ left) es h (at + 1) k wrote ends (omega arith) in
      stage-op (go_unless (suc end)) left s 9 0 (b + 1) j (λ dry. ap (λ (n : ℕ). rec 9 0 n) (omega (arith, target dry)))
  between-stage if_false h j =
      let z = (begins if_false (after x X.start)).address in
      let left1 = op (push (log true)) ▸ (op (go end) ▸ (mark (found X.around X.types) ▸ left)) in
      let left2 = op (go end) ▸ (mark (found X.around X.types) ▸ left) in
      let left3 = mark (found X.around X.types) ▸ left in
      let s0 = stage-part x ((op (go_unless z) ▸ (op (push (log true)) ▸ (op (go end) ▸ mark (found X.around X.types)))) ▸ left) es h (at + 1) k wrote ends (omega arith) in
      let s1 = stage-as (nil ▸ x) (op (go_unless z) ▸ left1) s0 refl refl refl in
      let s2 = stage-op (go_unless z) left1 s1 9 0 (p.address + 3) (refl, refl) (λ dry. ap (λ (n : ℕ). rec 9 0 n) (omega (arith, s1.stood.address))) in
      let s3 = stage-op (push (log true)) left2 s2 2 0 1 (refl, refl) (λ dry. refl) in
      let s4 = stage-op (go end) left3 s3 8 0 b (refl, refl) (λ dry. ap (λ (n : ℕ). rec 8 0 n) (sym (target dry))) in
      let s5 = stage-mark left s4 j in
      stage-as ((nil ▸ x) ▸ (op (go_unless z) ▸ (op (push (log true)) ▸ (op (go end) ▸ mark (found X.around X.types))))) left s5 refl refl refl

module _ {W : Walk} {l : List ℕ} {L : Lent} {top holds depth : ℕ} {cursor : Cursor} {at : ℕ} (X : Place) (o : Binary) (t : Ty) (s : At) (y : Code) (end : ℕ)
    (es fs : List ℕ) {before : Code} {M N : Lent} {q u : Cursor}
    (place : ℕ) (wrote : Wrote M.out N.out q u y) (ends : N.ends ≡ sets M.ends place fs) (where-at : place ≡ at + 1 + length es) (v : ℕ) (small : depth < 32)
    (b : ℕ) (target : W.dry ≡ false → b ≡ end) {out : List ℕ} {r : Cursor} where
  pub behind-stage : (w : Way) → Stage W l L top holds depth cursor at M (second_place w t X s) (waits w depth) q before (y ▸ (code_behind w o X.around X.types end ▸ nil)) es
      → Kept M N top (waits w depth) → Tested w (get_or (set N.stack depth v) depth 0 ≡ ty_byte logical)
      → (r ≡ cursor_behind (way_number w) depth u) × (out ≡ emit_behind (way_number w) (binary_code o) b holds (set N.stack depth v) depth u N.out)
      → Finished L cursor at out N.ends r ((before ▸ y) ▸ code_behind w o X.around X.types end) (es ++ fs)
  unfolding cursor_behind emit_behind cursor_after emitted record_of
  behind-stage plainly h k g j =
      let s3 = stage-part y (op (operate (binary o)) ▸ nil) fs h place k wrote ends where-at in
      finished (stage-op (operate (binary o)) nil s3 7 (binary_code o % 256) 0 j (λ dry. ap (λ (n : ℕ). rec 7 n 0) (operator-byte o)))
  behind-stage marked h k g j =
      let s3 = stage-part y (op (operate (binary o)) ▸ nil) fs h place k wrote ends where-at in
      finished (stage-op (operate (binary o)) nil s3 7 (binary_code o % 256) 0 j (λ dry. ap (λ (n : ℕ). rec 7 n 0) (operator-byte o)))
  behind-stage if_true h k g j =
      let left1 = mark (found X.around X.types) ▸ (op (push (log false)) ▸ (mark (found X.around (logical ∷ X.types)) ▸ nil)) in
      let left2 = op (push (log false)) ▸ (mark (found X.around (logical ∷ X.types)) ▸ nil) in
      let left3 = mark (found X.around (logical ∷ X.types)) ▸ nil in
      let s3 = stage-part y (code_behind if_true o X.around X.types end ▸ nil) fs h place (kept_then k (kept-stack N depth v (omega arith))) wrote ends where-at in
      let s4 = stage-as (before ▸ y) (op (go (suc (suc end))) ▸ left1) s3 refl refl refl in
      let s5 = stage-op (go (suc (suc end))) left1 s4 8 0 (b + 2) (refl, refl) (λ dry. ap (λ (n : ℕ). rec 8 0 n) (omega (arith, target dry))) in
      let s6 = stage-mark left2 s5 (refl, refl) in
      let s7 = stage-op (push (log false)) left3 s6 2 0 0 (refl, refl) (λ dry. refl) in
      let s8 = stage-hold logical s7 g small in
      let s9 = stage-mark nil s8 j in
      finished (stage-as ((before ▸ y) ▸ code_behind if_true o X.around X.types end) nil s9 refl refl refl)
  behind-stage if_false h k g j =
      let s3 = stage-push y (mark (found X.around (logical ∷ X.types)) ▸ nil) fs h place (kept_then k (kept-stack N depth v (omega arith))) wrote ends where-at logical g small in
      finished (stage-mark nil s3 j)

module _ (Γ : List Around) (st : List Ty) (end d : ℕ) (p : Cursor) (deep : d ≡ length st) where
  longer : (t : Ty) → d + 1 ≡ length (t ∷ st)
  longer t = omega (arith, deep)

  pub between-cursor : (w : Way) (t : Ty) (q : At) → cursor_between (way_number w) d p ≡ cursor_after (code_between w Γ st t q end) p
  unfolding cursor_between cursor_after
  between-cursor plainly t q = refl
  between-cursor marked t q = ap (λ (n : ℕ). cursor_shaped n p) (longer t)
  between-cursor if_true t q = refl
  between-cursor if_false t q = ap (λ (n : ℕ). cursor_shaped n (moved (moved (moved p)))) deep

  pub behind-cursor : (w : Way) (o : Binary) → cursor_behind (way_number w) d p ≡ cursor_after (code_behind w o Γ st end) p
  unfolding cursor_behind cursor_after
  behind-cursor plainly o = refl
  behind-cursor marked o = refl
  behind-cursor if_true o = rw (longer logical, deep)
  behind-cursor if_false o = ap (λ (n : ℕ). cursor_shaped n p) (longer logical)

-- an operand that is tested is logical, and so is the result
pub tested-by : (gs : List Global) (o : Binary) (t : Ty) {v : ℕ} → v ≡ pair_type (binary_code o) (ty_byte (ty_in gs t)) → Tested (way_of o (is_ty logical (some t))) (v ≡ ty_byte logical)
unfolding pair_type
tested-by gs plus t h = tt
tested-by gs minus t h = tt
tested-by gs times t h = tt
tested-by gs divide t h = tt
tested-by gs remainder t h = tt
tested-by gs less t h = tt
tested-by gs at_most t h = tt
tested-by gs greater t h = tt
tested-by gs at_least t h = tt
tested-by gs equal t h = tt
tested-by gs unequal t h = tt
tested-by gs both integer h = tt
tested-by gs both logical h = h
tested-by gs both bits h = tt
tested-by gs both (reference c) h = let w : ¬ (65536 + c ≡ 2) = omega arith in rw (ne_eqb (65536 + c) 2 w) tt
tested-by gs either integer h = tt
tested-by gs either logical h = h
tested-by gs either bits h = tt
tested-by gs either (reference c) h = let w : ¬ (65536 + c ≡ 2) = omega arith in rw (ne_eqb (65536 + c) 2 w) tt
tested-by gs shift_left t h = tt
tested-by gs shift_right t h = tt
