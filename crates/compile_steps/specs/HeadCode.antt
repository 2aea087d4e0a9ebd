-- The code of a head, as it is read from a table.
use Rattle.std.specs.Prelude.{◌≡◌}
use Rattle.std.proofs.Math.Path.{refl}
use Rattle.std.proofs.Common.{ap, ◌∙◌, add-zero, drop-drop, le-ltb}
use mathlib.Core.List.{List, [], ◌∷◌, map}
use Prim.Native.Nat.{ℕ, suc, ◌+◌, ◌-◌, ◌*◌, ◌≤◌}
use native.Mathlib.Omega.{arith}
use Rattle.std.proofs.Math.ListN.{length, get_or, drop}
use Rattle.language.specs.Program.{flat_typed, flat_decl}
use Rattle.words.specs.Numbers.{half_at}
use Rattle.values.specs.Types.{Ty, integer, logical, bits, reference, ty_byte}
use Rattle.values.specs.Values.{initial}
use Rattle.bytecode.specs.Instructions.{own, push, store, take_hold}
use Rattle.language.specs.Tree.{Decl, declare, holding}
use Rattle.language.specs.Table.{Entry}
use Rattle.language_laws.specs.Claims.{entries_of}
use Rattle.table_entries.specs.Entries.{half-part}
use Rattle.table_entries.specs.Stands.{Stands, fields, stands-tail}
use Rattle.compile_code.specs.Code.{Code, op, At, at, skip}
use Rattle.compile_code.specs.Compile.{ty_in}
use Rattle.compile_code.specs.Encode.{record_of}
use Rattle.compile_symbols.specs.Numbers.{packed, numbers_from, cells_within, type_in, second_in}
use Rattle.compile_symbols.specs.Packed.{type-packed, second-packed}
use Rattle.compile_output.specs.declared.Cursor.{Cursor}
use Rattle.compile_output.specs.EmitRecord.{moved, emit_op}
use Rattle.compile_nodes.specs.Knows.{Lies, Walk}
use Rattle.compile_nodes.specs.Ends.{ends_head}
use Rattle.compile_nodes.specs.Ready.{Wrote}
use Rattle.compile_emit.specs.EmitEntry.{emit_initial, cursor_declared, emit_declared, cursor_head, emit_head, finishes, holds_head}
use Rattle.compile_scopes.specs.Marks.{open_in}
use Rattle.compile_scopes.specs.Lies.{lies-here, lies-next}
use Rattle.compile_scopes.specs.Heads.{Bytes, number-typed}
use Rattle.compile_scopes.specs.HeadOps.{head_ops}
use Rattle.compile_scopes.specs.Sight.{classes_in}
use Rattle.compile_steps.specs.Parts.{wrote_then, wrote-op, wrote-nil}

initial-wrote : (t : Ty) (p : Cursor) (o : List ℕ) → Wrote o (emit_initial (ty_byte t) p o) p (moved p) (op (push (initial t)))
unfolding record_of
initial-wrote integer p o = wrote-op (push (initial integer)) 1 0 0 (refl, refl) (λ d. refl)
initial-wrote logical p o = wrote-op (push (initial logical)) 2 0 0 (refl, refl) (λ d. refl)
initial-wrote bits p o = wrote-op (push (initial bits)) 3 0 0 (refl, refl) (λ d. refl)
initial-wrote (reference c) p o =
    let z : 16 + c - 16 ≡ c = omega arith in
    wrote-op (push (initial (reference c))) 4 c 0 (refl, rw (le-ltb (16 + c) 16 (omega arith), z)) (λ d. refl)

wrote-same : {o a b : List ℕ} {p q r : Cursor} {x : Code} → a ≡ b → q ≡ r → Wrote o b p r x → Wrote o a p q x
wrote-same e f w = record { advanced = f ∙ w.advanced; written = e ∙ w.written }

module _ (part known : List ℕ) (n place : ℕ) (cursor : Cursor) (o : List ℕ) where
  cursors-10 : half_at part 0 ≡ 10 → cursor_head part (suc n) cursor ≡ cursor_head (drop 8 part) n (moved (moved cursor))
  unfolding cursor_head cursor_declared
  cursors-10 e = rw e

  emits-10 : half_at part 0 ≡ 10 → (t c : ℕ) → type_in (get_or known place 0) ≡ t → second_in (get_or known place 0) ≡ c
      → emit_head part known place (suc n) cursor o ≡ emit_head (drop 8 part) known (place + 1) n (moved (moved cursor)) (emit_op (moved cursor) (emit_initial t cursor o) 6 0 c)
  unfolding emit_head cursor_declared emit_declared
  emits-10 e t c a d = rw (e, a, d)

  ends-10 : half_at part 0 ≡ 10 → finishes part (suc n) cursor ≡ (cursor.address + 1 + 1) ∷ finishes (drop 8 part) n (moved (moved cursor))
  unfolding finishes cursor_declared
  ends-10 e = rw e

  cursors-14 : half_at part 0 ≡ 14 → cursor_head part (suc n) cursor ≡ cursor_head (drop 8 part) n (moved cursor)
  unfolding cursor_head cursor_declared
  cursors-14 e = rw e

  emits-14 : half_at part 0 ≡ 14 → (g : ℕ) → half_at part 2 ≡ g → emit_head part known place (suc n) cursor o ≡ emit_head (drop 8 part) known (place + 1) n (moved cursor) (emit_op cursor o 17 0 g)
  unfolding emit_head cursor_declared emit_declared
  emits-14 e g a = rw (e, a)

  ends-14 : half_at part 0 ≡ 14 → finishes part (suc n) cursor ≡ (cursor.address + 1) ∷ finishes (drop 8 part) n (moved cursor)
  unfolding finishes cursor_declared
  ends-14 e = rw e

pub record HeadRead (W : Walk) (l : List ℕ) (place : ℕ) (ds : List Decl) (p : At) (cursor : Cursor) (o : List ℕ) : Type 0 where
  pub wrote : Wrote o (emit_head (drop (8 * place) l) W.known place (length ds) cursor o) cursor (cursor_head (drop (8 * place) l) (length ds) cursor) (head_ops W.globals ds p.cell)
  pub ends : cursor.address ≡ p.address → finishes (drop (8 * place) l) (length ds) cursor ≡ ends_head ds p
  pub holds : holds_head (drop (8 * place) l) (length ds) ≡ open_in ds

module _ (W : Walk) (l : List ℕ) where
  kind-here : (place : ℕ) (e : Entry) (us : List Entry) → Stands (entries_of l) place (e ∷ us) → half_at (drop (8 * place) l) 0 ≡ e.kind
  kind-here place e us h = half-part l (8 * place) 0 ∙ rw (add-zero (8 * place)) (fields l place e us h).kind

  next_here : (place : ℕ) → drop 8 (drop (8 * place) l) ≡ drop (8 * (place + 1)) l
  next_here place = drop-drop 8 (8 * place) l ∙ ap (λ (k : ℕ). drop k l) (let z : 8 * place + 8 ≡ 8 * (place + 1) = omega arith in z)

  pub head_read : (ds : List Decl) (place : ℕ) (p : At) (cursor : Cursor) (o : List ℕ) → Stands (entries_of l) place (map flat_decl ds)
      → Lies W.known place (numbers_from (classes_in W) p.cell (map flat_decl ds))
      → Bytes W.globals ds → p.cell + cells_within (map flat_decl ds) ≤ 32 → HeadRead W l place ds p cursor o
  unfolding record_of head_ops emit_head cursor_head finishes holds_head ends_head open_in Bytes numbers_from cells_within flat_decl flat_typed
  head_read [] place p cursor o h n b c = record { wrote = wrote-nil o cursor; ends = λ e. refl; holds = refl }
  head_read (declare x ∷ ds) place p cursor o h n b c =
      let k : half_at (drop (8 * place) l) 0 ≡ 10 = kind-here place _ _ h in
      let part = drop (8 * place) l in let m = length ds in
      let t = ty_in W.globals x.type in
      let y : get_or W.known place 0 ≡ packed (ty_byte t) 0 p.cell = lies-here _ _ n ∙ number-typed (classes_in W) 0 p.cell x in
      let a : type_in (get_or W.known place 0) ≡ ty_byte t = rw y (type-packed (ty_byte t) 0 p.cell b.0 (omega arith) (omega (arith, c))) in
      let d : second_in (get_or W.known place 0) ≡ p.cell = rw y (second-packed (ty_byte t) 0 p.cell b.0 (omega arith) (omega (arith, c))) in
      let q = at (suc (suc p.address)) (suc p.cell) in
      let one : p.cell + 1 ≡ suc p.cell = omega arith in
      let r = head_read ds (place + 1) q (moved (moved cursor)) (emit_op (moved cursor) (emit_initial (ty_byte t) cursor o) 6 0 p.cell) (stands-tail _ _ h)
      (rw one at (lies-next _ _ n)) b.1 (omega (arith, c)) in
      record {
        wrote = wrote-same (emits-10 part W.known m place cursor o k (ty_byte t) p.cell a d ∙ rw (next_here place)) (cursors-10 part W.known m place cursor o k ∙ rw (next_here place))
            (wrote_then (initial-wrote t cursor o) (wrote_then (wrote-op (store own p.cell) 6 0 p.cell (refl, refl) (λ z. refl)) r.wrote));
        ends =
            λ e. ends-10 part W.known m place cursor o k ∙ rw (next_here place, r.ends (omega (arith, e)), e)
            (ap (λ (i : ℕ). i ∷ ends_head ds q) (let z : p.address + 1 + 1 ≡ suc (suc p.address) = omega arith in z));
        holds = rw (k, next_here place) (omega (arith, r.holds));
      }
  head_read (holding g ∷ ds) place p cursor o h n b c =
      let k : half_at (drop (8 * place) l) 0 ≡ 14 = kind-here place _ _ h in
      let part = drop (8 * place) l in let m = length ds in
      let a : half_at (drop (8 * place) l) 2 ≡ g = half-part l (8 * place) 2 ∙ (fields l place _ _ h).a in
      let zero_more : p.cell + 0 ≡ p.cell = omega arith in
      let r = head_read ds (place + 1) (skip 1 p) (moved cursor) (emit_op cursor o 17 0 g) (stands-tail _ _ h) (rw zero_more at (lies-next _ _ n)) b (omega (arith, c)) in
      record {
        wrote =
            wrote-same (emits-14 part W.known m place cursor o k g a ∙ rw (next_here place))
            (cursors-14 part W.known m place cursor o k ∙ rw (next_here place)) (wrote_then (wrote-op (take_hold g) 17 0 g (refl, refl) (λ z. refl)) r.wrote);
        ends =
            λ e. ends-14 part W.known m place cursor o k ∙ rw (next_here place, r.ends (omega (arith, e)), e)
            (ap (λ (i : ℕ). i ∷ ends_head ds (skip 1 p)) (let z : p.address + 1 ≡ suc p.address = omega arith in z));
        holds = rw (k, next_here place) (omega (arith, r.holds));
      }
