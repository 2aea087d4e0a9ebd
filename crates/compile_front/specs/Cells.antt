-- The cells of a body are, in order, its declarations, cases and loops as they stand in the table.
use Rattle.std.specs.Prelude.{◌≡◌, refl, Bool, true, false, ℕ, suc, ◌+◌, ◌-◌}
use Rattle.std.proofs.Math.Path.{ap}
use Rattle.std.proofs.Common.{sym, ◌∙◌, arith, le-ltb}
use mathlib.Core.List.{List, [], ◌∷◌, ◌++◌, map}
use Rattle.language.specs.Program.{flat_typed, flat_decl, flat_s, flat_items, flat_arms, flat_target, flat_e, flat_es}
use Rattle.logic.specs.Choice.{If◌then◌else◌}
use Rattle.values.specs.Types.{Ty, integer, logical, bits, reference, ty_code, ty_byte}
use Rattle.values.specs.Operators.{Binary}
use Rattle.language.specs.Tree.{Decl, declare, holding, Stmt, block, assign, when, choose, while, goto, assert, call, set_level, select, for, Items, no_item, label, item, Arms}
use Rattle.language.specs.Tree.{last_arm, arm, Target, to_variable, to_field, Expr, number, truth, pattern, null, variable, invoke, field, make, operate1, operate2}
use Rattle.language.specs.Tree.{conditional, fader, block_expr, Exprs, no_expr, expr, Global}
use Rattle.language.specs.Table.{Entry}
use Rattle.language.specs.Names.{block_of, expression_of, loop_of}
use Rattle.language.specs.Faults.{type_e, is_ty}
use Rattle.bytecode.specs.Macro.{Shape}
use Rattle.bytecode.specs.Instructions.{go}
use Rattle.compile_code.specs.Code.{Code, nil, op, mark, cell, ◌▸◌, At, at, ahead, skip, after, cells_in}
use Rattle.compile_code.specs.Compile.{classes_of, class_names, Around, inside, outermost, bound, global, held, labels, scopes_of, passing, the_labels, has_label, label_at}
use Rattle.compile_code.specs.Compile.{Way, plainly, marked, if_true, if_false, way_of, code_way, code_goto, code_head, code_s, code_items, code_arms, code_target, code_e, code_es}
use Rattle.compile_code.specs.Compile.{ops_arms, ty_target, ty_e, ty_in, found, code_stored, code_downward, code_upward, code_once, code_entered, code_turned}
use Rattle.compile_symbols.specs.Numbers.{byte_of}
use Rattle.compile_front.specs.Types.{types_of, types-append}

-- the bytes of a part's new cells, before others
unfoldable pub cell_bytes : Code → List ℕ → List ℕ
cell_bytes nil l = l
cell_bytes (op i) l = l
cell_bytes (mark s) l = l
cell_bytes (cell t) l = ty_byte t ∷ l
cell_bytes (x ▸ y) l = cell_bytes x (cell_bytes y l)

pub cell-bytes : (x : Code) (ts : List Ty) → map ty_byte (cells_in x ts) ≡ cell_bytes x (map ty_byte ts)
unfolding cell_bytes cells_in
cell-bytes nil ts = refl
cell-bytes (op i) ts = refl
cell-bytes (mark s) ts = refl
cell-bytes (cell t) ts = refl
cell-bytes (x ▸ y) ts = cell-bytes x (cells_in y ts) ∙ ap (cell_bytes x) (cell-bytes y ts)

none-goto : (Γ : List Around) (a : ℕ) (l : List ℕ) → cell_bytes (code_goto Γ a) l ≡ l
unfolding cell_bytes code_goto
none-goto [] a l = refl
none-goto (inside s ∷ Γ) a l = none-goto Γ a l
none-goto (outermost s ∷ Γ) a l = none-goto Γ a l
none-goto (bound b c ∷ Γ) a l = none-goto Γ a l
none-goto (global o b c ∷ Γ) a l = none-goto Γ a l
none-goto (held g ∷ Γ) a l = none-goto Γ a l
none-goto (labels is x ∷ Γ) a l = pick (has_label a is) (none-goto Γ a l)
  where
    pick : (b : Bool) → cell_bytes (code_goto Γ a) l ≡ l → cell_bytes (If b then op (go (label_at is (scopes_of Γ) (the_labels is ∷ passing Γ) x a)) else code_goto Γ a) l ≡ l
    pick true h = refl
    pick false h = h

none-entered : (c x z : ℕ) (m : Shape) (l : List ℕ) → cell_bytes (code_entered c x z m) l ≡ l
unfolding cell_bytes code_stored code_downward code_upward code_once
none-entered c x z m l = refl

none-turned : (c b z : ℕ) (m : Shape) (l : List ℕ) → cell_bytes (code_turned c b z m) l ≡ l
unfolding cell_bytes code_turned
none-turned c b z m l = refl

module _ (cs : List ℕ) where
  way : (w : Way) (o : Binary) (Γ : List Around) (ts : List Ty) (t : Ty) (x : Code) (p : At) (f : List Ty → At → Code) (us vs : List Entry) → ((l : List ℕ) → cell_bytes x l ≡ types_of cs us l)
      → ((rs : List Ty) (q : At) (l : List ℕ) → cell_bytes (f rs q) l ≡ types_of cs vs l) → (l : List ℕ) → cell_bytes (code_way w o Γ ts t x p f) l ≡ types_of cs us (types_of cs vs l)
  unfolding cell_bytes
  way plainly o Γ ts t x p f us vs h k l = h _ ∙ ap (types_of cs us) (k (t ∷ ts) (after x p) l)
  way marked o Γ ts t x p f us vs h k l = h _ ∙ ap (types_of cs us) (k (t ∷ ts) (after x p) l)
  way if_true o Γ ts t x p f us vs h k l = h _ ∙ ap (types_of cs us) (k ts (skip 1 (after x p)) l)
  way if_false o Γ ts t x p f us vs h k l = h _ ∙ ap (types_of cs us) (k ts (skip 3 (after x p)) l)

module _ (gs : List Global) where
  abbrev cs : List ℕ
  cs = class_names (classes_of gs)

  pub byte-in : (t : Ty) → byte_of cs (ty_code t) ≡ ty_byte (ty_in gs t)
  byte-in integer = refl
  byte-in logical = refl
  byte-in bits = refl
  byte-in (reference c) = let e : 65536 + c - 65536 ≡ c = omega arith in rw (le-ltb (65536 + c) 65536 (omega arith), e)

  pub head-types : (name : ℕ → ℕ → Around) (ds : List Decl) (Γ : List Around) (p : At) (f : List Around → At → Code) (us : List Entry)
      → ((Δ : List Around) (q : At) (l : List ℕ) → cell_bytes (f Δ q) l ≡ types_of cs us l) → (l : List ℕ) → cell_bytes (code_head gs name ds Γ p f) l ≡ types_of cs (map flat_decl ds) (types_of cs us l)
  unfolding cell_bytes code_head types_of flat_decl flat_typed
  head-types name [] Γ p f us h l = h Γ p l
  head-types name (declare x ∷ ds) Γ p f us h l =
      rw (byte-in x.type) (ap (λ (m : List ℕ). ty_byte (ty_in gs x.type) ∷ m) (head-types name ds (name x.name p.cell ∷ Γ) (at (suc (suc p.address)) (suc p.cell)) f us h l))
  head-types name (holding k ∷ ds) Γ p f us h l = head-types name ds (held k ∷ Γ) (skip 1 p) f us h l

  -- one part, and then another
  seq : (x y : Code) (us vs : List Entry) → ((l : List ℕ) → cell_bytes x l ≡ types_of cs us l) → ((l : List ℕ) → cell_bytes y l ≡ types_of cs vs l) → (l : List ℕ)
      → cell_bytes x (cell_bytes y l) ≡ types_of cs (us ++ vs) l
  seq x y us vs h k l = h (cell_bytes y l) ∙ (ap (types_of cs us) (k l) ∙ sym (types-append cs us vs l))

  mutual
    unfolding cell_bytes types_of code_s flat_s after

    pub types-S : (s : Stmt) (Γ : List Around) (ts : List Ty) (p : At) (l : List ℕ) → cell_bytes (code_s gs s Γ ts p) l ≡ types_of cs (flat_s s) l
    types-S (block ds is) Γ ts p l =
        head-types bound ds (inside (block_of ds is) ∷ Γ) p (λ Δ q. code_items gs is (labels is q.address ∷ Δ) ts q) (flat_items is) (λ Δ q m. types-Items is (labels is q.address ∷ Δ) ts q m) l
        ∙ sym (types-append cs (map flat_decl ds) (flat_items is) l)
    types-S (assign x e) Γ ts p l =
        let q = after (code_target gs x Γ ts p) p in
        seq (code_target gs x Γ ts p) (code_e gs e Γ (ty_target gs Γ x ts) q) (flat_target x) (flat_e e) (λ m. types-Target x Γ ts p m) (λ m. types-E e Γ (ty_target gs Γ x ts) q m) l
    types-S (when e s) Γ ts p l =
        let q = skip 1 (after (code_e gs e Γ ts p) p) in
        seq (code_e gs e Γ ts p) (code_s gs s Γ ts q) (flat_e e) (flat_s s) (λ m. types-E e Γ ts p m) (λ m. types-S s Γ ts q m) l
    types-S (choose e s t) Γ ts p l =
        let q = skip 1 (after (code_e gs e Γ ts p) p) in let r = skip 1 (after (code_s gs s Γ ts q) q) in
        seq (code_e gs e Γ ts p) (code_s gs s Γ ts q ▸ code_s gs t Γ ts r) (flat_e e) (flat_s s ++ flat_s t) (λ m. types-E e Γ ts p m)
        (λ m. seq (code_s gs s Γ ts q) (code_s gs t Γ ts r) (flat_s s) (flat_s t) (λ n. types-S s Γ ts q n) (λ n. types-S t Γ ts r n) m) l
    types-S (while e s) Γ ts p l =
        let q = skip 1 (after (code_e gs e Γ ts p) p) in
        seq (code_e gs e Γ ts p) (code_s gs s Γ ts q) (flat_e e) (flat_s s) (λ m. types-E e Γ ts p m) (λ m. types-S s Γ ts q m) l
    types-S (goto a) Γ ts p l = none-goto Γ a l
    types-S (assert e) Γ ts p l = types-E e Γ ts p l
    types-S (call a es) Γ ts p l = types-Es es Γ ts p l
    types-S (set_level e f) Γ ts p l =
        let q = after (code_e gs e Γ ts p) p in
        seq (code_e gs e Γ ts p) (code_e gs f Γ (ty_e gs Γ e ∷ ts) q) (flat_e e) (flat_e f) (λ m. types-E e Γ ts p m) (λ m. types-E f Γ (ty_e gs Γ e ∷ ts) q m) l
    types-S (select e r) Γ ts p l =
        let q = at p.address (suc p.cell) in let b = skip 1 (after (code_e gs e Γ ts q) q) in let z = b.address + ops_arms r (scopes_of Γ) (passing Γ) in
        ap (λ (m : List ℕ). 1 ∷ m)
        (seq (code_e gs e Γ ts q) (code_arms gs r p.cell 1 z Γ ts b) (flat_e e) (flat_arms r) (λ m. types-E e Γ ts q m) (λ m. types-Arms r p.cell 1 z Γ ts b m) l)
    types-S (for a e f g s) Γ ts p l =
        let q = at p.address (suc (suc (suc p.cell))) in let x = code_e gs e Γ ts q in let us = ty_e gs Γ e ∷ ts in
        let y = code_e gs f Γ us (after x q) in let vs = ty_e gs Γ f ∷ us in let z = code_e gs g Γ vs (after y (after x q)) in
        let h = after z (after y (after x q)) in let b = skip 48 h in let Δ = bound a p.cell ∷ inside (loop_of a) ∷ Γ in
        let w = code_s gs s Δ ts b in let end = ahead 13 (after w b).address in
        let i = code_entered p.cell h.address end (found Γ ts) in let o = code_turned p.cell b.address end (found Γ ts) in
        ap (λ (m : List ℕ). 1 ∷ 1 ∷ 1 ∷ m)
        (seq x (y ▸ (z ▸ (i ▸ (w ▸ o)))) (flat_e e) (flat_e f ++ (flat_e g ++ flat_s s)) (λ m. types-E e Γ ts q m)
        (λ m. seq y (z ▸ (i ▸ (w ▸ o))) (flat_e f) (flat_e g ++ flat_s s) (λ n. types-E f Γ us (after x q) n)
        (λ n. seq z (i ▸ (w ▸ o)) (flat_e g) (flat_s s) (λ k. types-E g Γ vs (after y (after x q)) k)
        (λ k. none-entered p.cell h.address end (found Γ ts) (cell_bytes w (cell_bytes o k))
        ∙ (types-S s Δ ts b (cell_bytes o k) ∙ ap (types_of cs (flat_s s)) (none-turned p.cell b.address end (found Γ ts) k))) n) m) l)

    pub types-Items : (is : Items) (Γ : List Around) (ts : List Ty) (p : At) (l : List ℕ) → cell_bytes (code_items gs is Γ ts p) l ≡ types_of cs (flat_items is) l
    types-Items no_item Γ ts p l = refl
    types-Items (label a is) Γ ts p l = types-Items is Γ ts p l
    types-Items (item s is) Γ ts p l =
        let q = after (code_s gs s Γ ts p) p in
        seq (code_s gs s Γ ts p) (code_items gs is Γ ts q) (flat_s s) (flat_items is) (λ m. types-S s Γ ts p m) (λ m. types-Items is Γ ts q m) l

    types-Arms : (r : Arms) (c i z : ℕ) (Γ : List Around) (ts : List Ty) (p : At) (l : List ℕ) → cell_bytes (code_arms gs r c i z Γ ts p) l ≡ types_of cs (flat_arms r) l
    types-Arms (last_arm s) c i z Γ ts p l = types-S s Γ ts (skip 4 p) l
    types-Arms (arm s r) c i z Γ ts p l =
        let q = skip 4 p in let n = skip 1 (after (code_s gs s Γ ts q) q) in
        seq (code_s gs s Γ ts q) (code_arms gs r c (suc i) z Γ ts n) (flat_s s) (flat_arms r) (λ m. types-S s Γ ts q m) (λ m. types-Arms r c (suc i) z Γ ts n m) l

    types-Target : (x : Target) (Γ : List Around) (ts : List Ty) (p : At) (l : List ℕ) → cell_bytes (code_target gs x Γ ts p) l ≡ types_of cs (flat_target x) l
    types-Target (to_variable a) Γ ts p l = refl
    types-Target (to_field a e) Γ ts p l = types-E e Γ ts p l

    pub types-E : (e : Expr) (Γ : List Around) (ts : List Ty) (p : At) (l : List ℕ) → cell_bytes (code_e gs e Γ ts p) l ≡ types_of cs (flat_e e) l
    types-E (number z) Γ ts p l = refl
    types-E (truth b) Γ ts p l = refl
    types-E (pattern z) Γ ts p l = refl
    types-E (null c) Γ ts p l = refl
    types-E (variable a) Γ ts p l = refl
    types-E (invoke a es) Γ ts p l = types-Es es Γ ts p l
    types-E (field a e) Γ ts p l = types-E e Γ ts p l
    types-E (make c es) Γ ts p l = types-Es es Γ ts p l
    types-E (operate1 o e) Γ ts p l = types-E e Γ ts p l
    types-E (operate2 o e f) Γ ts p l =
        way cs (way_of o (is_ty logical (type_e (scopes_of Γ) e))) o Γ ts (ty_e gs Γ e) (code_e gs e Γ ts p) p (λ us q. code_e gs f Γ us q) (flat_e e) (flat_e f)
        (λ m. types-E e Γ ts p m) (λ us q m. types-E f Γ us q m) l
        ∙ sym (types-append cs (flat_e e) (flat_e f) l)
    types-E (conditional e f g) Γ ts p l =
        let q = skip 1 (after (code_e gs e Γ ts p) p) in let r = skip 1 (after (code_e gs f Γ ts q) q) in
        seq (code_e gs e Γ ts p) (code_e gs f Γ ts q ▸ code_e gs g Γ ts r) (flat_e e) (flat_e f ++ flat_e g) (λ m. types-E e Γ ts p m)
        (λ m. seq (code_e gs f Γ ts q) (code_e gs g Γ ts r) (flat_e f) (flat_e g) (λ n. types-E f Γ ts q n) (λ n. types-E g Γ ts r n) m) l
    types-E (fader e) Γ ts p l = types-E e Γ ts p l
    types-E (block_expr ds is e) Γ ts p l =
        head-types bound ds (inside (expression_of ds is) ∷ Γ) p (λ Δ q. let y = code_items gs is (labels is q.address ∷ Δ) ts q in y ▸ code_e gs e Δ ts (after y q)) (flat_items is ++ flat_e e)
        (λ Δ q m.
        let y = code_items gs is (labels is q.address ∷ Δ) ts q in
        seq y (code_e gs e Δ ts (after y q)) (flat_items is) (flat_e e) (λ n. types-Items is (labels is q.address ∷ Δ) ts q n) (λ n. types-E e Δ ts (after y q) n) m) l
        ∙ sym (types-append cs (map flat_decl ds) (flat_items is ++ flat_e e) l)

    types-Es : (es : Exprs) (Γ : List Around) (ts : List Ty) (p : At) (l : List ℕ) → cell_bytes (code_es gs es Γ ts p) l ≡ types_of cs (flat_es es) l
    types-Es no_expr Γ ts p l = refl
    types-Es (expr e es) Γ ts p l =
        let q = after (code_e gs e Γ ts p) p in
        seq (code_e gs e Γ ts p) (code_es gs es Γ (ty_e gs Γ e ∷ ts) q) (flat_e e) (flat_es es) (λ m. types-E e Γ ts p m) (λ m. types-Es es Γ (ty_e gs Γ e ∷ ts) q m) l
