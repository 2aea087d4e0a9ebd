-- The numbers of entries fit their fields: so do those of the ops that they compile to.
use Rattle.std.specs.Prelude.{Bool, true, false, ◌&&◌, ◌≡◌, refl, ℕ, suc, ◌+◌, ◌<◌, leb, ltb, pos}
use mathlib.Core.List.{List, [], ◌∷◌, ◌++◌, map}
use Rattle.std.proofs.Math.Option.{Option, none, some}
use Rattle.std.proofs.Common.{arith, SFits, ltb-true}
use Rattle.std.specs.Int.Signed.{mag}
use Rattle.std.specs.Int.{w32}
use Rattle.values.specs.Arithmetic.{is_zero}
use Rattle.language.specs.Program.{flat_decl, flat_s, flat_items, flat_arms, flat_target, flat_e, flat_es, in_fields}
use Rattle.logic.specs.Choice.{If◌then◌else◌}
use Rattle.words.specs.Laws.{integer-back, word_below}
use Rattle.values.specs.Types.{Ty, integer, logical, bits, reference}
use Rattle.values.specs.Operators.{Binary}
use Rattle.values.specs.Values.{int, log, bit, ref, initial}
use Rattle.language.specs.Tree.{Decl, declare, holding, Stmt, block, assign, when, choose, while, goto, assert, call, set_level, select, for, Items, no_item, label, item, Arms}
use Rattle.language.specs.Tree.{last_arm, arm, Target, to_variable, to_field, Expr, number, truth, pattern, null, variable, invoke, field, make, operate1, operate2}
use Rattle.language.specs.Tree.{conditional, fader, block_expr, Exprs, no_expr, expr, Global, count_arms}
use Rattle.language.specs.Names.{block_of, expression_of}
use Rattle.language.specs.Faults.{type_e, is_ty}
use Rattle.language.specs.Table.{Entry, entry, in_layout}
use Rattle.bytecode.specs.Instructions.{Instr, end, push, load, store, operate, go, go_unless, return, get_field, put_field, read_fader, take_hold, let_hold, stop, stops_by}
use Rattle.bytecode.specs.Instructions.{call as call_op, make as make_op, set_level as set_op, assert as assert_op}
use Rattle.logic.specs.Lists.{Each}
use Rattle.logic.specs.Tests.{halves}
use Rattle.bytecode.specs.Macro.{Shape}
use Rattle.compile_code.specs.Code.{Code, nil, op, mark, cell, ◌▸◌, At, skip, after}
use Rattle.compile_code.specs.Compile.{Around, inside, outermost, bound, global, held, labels, scopes_of, passing, the_labels, has_label, label_at, kept, loading, storing}
use Rattle.compile_code.specs.Compile.{Way, plainly, marked, if_true, if_false, way_of, code_way, code_goto, code_head, code_s, code_items, code_arms, code_target, code_e, code_es}
use Rattle.compile_code.specs.Compile.{found, code_stored, code_downward, code_upward, code_once, code_entered, code_turned}
use Rattle.compile_code.specs.Compile.{op_target, ty_e, ty_in}
use Rattle.compile_code.specs.Compile.{Cell as Kept, cell_of as kept_of}
use Rattle.compile_rules.specs.Records.{Writable}
use Rattle.compile_macro.specs.Laid.{Ops}
use Rattle.language_laws.specs.Bytes.{number_fits}

-- an entry whose numbers are in their fields and as its kind asks
abbrev pub Entered : Entry → Type 0
Entered e = (in_fields e ≡ true) × (in_layout e ≡ true)

-- what an op holds, where it is not the loading rules' to say
abbrev pub Holdable : Instr → Type 0
Holdable end = Unit {0}
Holdable (push (int z)) = SFits w32 z
Holdable (push (log b)) = Unit {0}
Holdable (push (bit n)) = n < 4294967296
Holdable (push (ref c none)) = Unit {0}
Holdable (push (ref c (some n))) = ⊥
Holdable (load o x) = Unit {0}
Holdable (store o x) = Unit {0}
Holdable (operate o) = Unit {0}
Holdable (go t) = Unit {0}
Holdable (go_unless t) = Unit {0}
Holdable (call_op b) = Unit {0}
Holdable return = Unit {0}
Holdable (make_op c) = Unit {0}
Holdable (get_field c x) = Unit {0}
Holdable (put_field c x) = Unit {0}
Holdable set_op = Unit {0}
Holdable read_fader = Unit {0}
Holdable (take_hold g) = leb g 63 ≡ true
Holdable let_hold = Unit {0}
Holdable assert_op = Unit {0}
Holdable (stop c) = stops_by c ≡ true

pub holdable-writable : (i : Instr) → Holdable i → Writable i
holdable-writable end h = tt
holdable-writable (push (int z)) h = integer-back z h
holdable-writable (push (log b)) h = tt
holdable-writable (push (bit n)) h = tt
holdable-writable (push (ref c none)) h = tt
holdable-writable (push (ref c (some n))) h = h
holdable-writable (load o x) h = tt
holdable-writable (store o x) h = tt
holdable-writable (operate o) h = tt
holdable-writable (go t) h = tt
holdable-writable (go_unless t) h = tt
holdable-writable (call_op b) h = tt
holdable-writable return h = tt
holdable-writable (make_op c) h = tt
holdable-writable (get_field c x) h = tt
holdable-writable (put_field c x) h = tt
holdable-writable set_op h = tt
holdable-writable read_fader h = tt
holdable-writable (take_hold g) h = h
holdable-writable let_hold h = tt
holdable-writable assert_op h = tt
holdable-writable (stop c) h = h

pub more-ops : (P Q : Instr → Type 0) → ((i : Instr) → P i → Q i) → (x : Code) → Ops P x → Ops Q x
unfolding Ops
more-ops P Q f nil h = tt
more-ops P Q f (op i) h = f i h
more-ops P Q f (mark s) h = tt
more-ops P Q f (cell t) h = tt
more-ops P Q f (x ▸ y) h = (more-ops P Q f x h.0, more-ops P Q f y h.1)

pub parted : {A : Type 0} (P : A → Type 0) (xs ys : List A) → Each P (xs ++ ys) → Each P xs × Each P ys
parted P [] ys h = (tt, h)
parted P (x ∷ xs) ys h = let q = parted P xs ys h.1 in ((h.0, q.0), q.1)

-- ── single entries ──

its-a : (e : Entry) → in_fields e ≡ true → e.a < 65536
its-a e h = ltb-true e.a 65536 (halves (ltb e.a 65536) (ltb (mag e.b) 2147483648) (halves (ltb e.kind 65536) (ltb e.a 65536 && ltb (mag e.b) 2147483648) h).1).0

its-group : (g : ℕ) → in_layout (entry 14 g (pos 0)) ≡ true → leb g 63 ≡ true
unfolding in_layout
its-group g h = (halves (leb g 63) (is_zero (pos 0)) h).0

small : (n : ℕ) → n < 100000 → SFits w32 (pos n)
small n h = record { sfits = omega arith }

first-value : (t : Ty) → Holdable (push (initial t))
first-value integer = small 0 (omega arith)
first-value logical = tt
first-value bits = omega arith
first-value (reference c) = tt

of-loading : (o : Option Kept) → Holdable (loading o)
of-loading none = tt
of-loading (some (kept o c)) = tt

of-storing : (o : Option Kept) → Holdable (storing o)
of-storing none = tt
of-storing (some (kept o c)) = tt

of-goto : (Γ : List Around) (a : ℕ) → Ops Holdable (code_goto Γ a)
unfolding Ops code_goto
of-goto [] a = tt
of-goto (inside s ∷ Γ) a = of-goto Γ a
of-goto (outermost s ∷ Γ) a = of-goto Γ a
of-goto (bound b c ∷ Γ) a = of-goto Γ a
of-goto (global o b c ∷ Γ) a = of-goto Γ a
of-goto (held g ∷ Γ) a = (tt, of-goto Γ a)
of-goto (labels is x ∷ Γ) a = pick (has_label a is) (of-goto Γ a)
  where
    pick : (b : Bool) → Ops Holdable (code_goto Γ a) → Ops Holdable (If b then op (go (label_at is (scopes_of Γ) (the_labels is ∷ passing Γ) x a)) else code_goto Γ a)
    pick true h = tt
    pick false h = h

of-way : (w : Way) (o : Binary) (Γ : List Around) (ts : List Ty) (t : Ty) (x : Code) (p : At) (f : List Ty → At → Code) → Ops Holdable x
    → ((us : List Ty) (q : At) → Ops Holdable (f us q)) → Ops Holdable (code_way w o Γ ts t x p f)
unfolding Ops
of-way plainly o Γ ts t x p f h g = (h, (g (t ∷ ts) (after x p), tt))
of-way marked o Γ ts t x p f h g = (h, (tt, (g (t ∷ ts) (after x p), tt)))
of-way if_true o Γ ts t x p f h g = (h, (tt, (g ts (skip 1 (after x p)), (tt, (tt, (tt, tt))))))
of-way if_false o Γ ts t x p f h g = (h, (tt, (tt, (tt, (tt, (g ts (skip 3 (after x p)), tt))))))

of-entered : (c x z : ℕ) (m : Shape) → Ops Holdable (code_entered c x z m)
unfolding Ops code_stored code_downward code_upward code_once
of-entered c x z m = (
  (tt, (tt, (tt, (tt, (small 0 (omega arith), (tt, (tt, (refl, tt)))))))),
  (
    (tt, (small 0 (omega arith), (tt, (tt, (tt, (tt, (tt, (tt, (tt, (record { sfits = omega arith }, (tt, (tt, (tt, (tt, (tt, (tt, (tt, (small 1 (omega arith), (tt, (tt, (tt, tt))))))))))))))))))))),
    (
      (tt, (tt, (tt, (tt, (tt, (record { sfits = omega arith }, (tt, (tt, (tt, (tt, (tt, (tt, (tt, (tt, (tt, tt))))))))))))))),
      (record { sfits = omega arith }, (tt, (record { sfits = omega arith }, (tt, tt)))),
    ),
  ),
)

of-turned : (c b z : ℕ) (m : Shape) → Ops Holdable (code_turned c b z m)
unfolding Ops code_turned
of-turned c b z m = (tt, (small 0 (omega arith), (tt, (tt, (tt, (tt, (tt, (tt, (tt, (tt, (tt, (tt, (tt, tt)))))))))))))

module _ (gs : List Global) where
  pub of-head : (name : ℕ → ℕ → Around) (ds : List Decl) (Γ : List Around) (p : At) (f : List Around → At → Code) → Each Entered (map flat_decl ds)
      → ((Δ : List Around) (q : At) → Ops Holdable (f Δ q)) → Ops Holdable (code_head gs name ds Γ p f)
  unfolding Ops code_head flat_decl
  of-head name [] Γ p f h g = g Γ p
  of-head name (declare x ∷ ds) Γ p f h g = (tt, (first-value (ty_in gs x.type), (tt, of-head name ds _ _ f h.1 g)))
  of-head name (holding k ∷ ds) Γ p f h g = (its-group k h.0.1, (of-head name ds (held k ∷ Γ) (skip 1 p) f h.1 g, tt))

  of-store : (x : Target) (Γ : List Around) → Holdable (op_target gs Γ x)
  of-store (to_variable a) Γ = of-storing (kept_of a Γ)
  of-store (to_field a e) Γ = tt

  mutual
    unfolding Ops code_s flat_s count_arms

    pub fields_s : (s : Stmt) (Γ : List Around) (ts : List Ty) (p : At) → Each Entered (flat_s s) → Ops Holdable (code_s gs s Γ ts p)
    fields_s (block ds is) Γ ts p h = let q = parted Entered (map flat_decl ds) (flat_items is) h.1 in
        of-head bound ds (inside (block_of ds is) ∷ Γ) p (λ Δ q. code_items gs is (labels is q.address ∷ Δ) ts q) q.0 (λ Δ r. fields_items is (labels is r.address ∷ Δ) ts r q.1)
    fields_s (assign x e) Γ ts p h = let q = parted Entered (flat_target x) (flat_e e) h.1 in (fields_target x Γ ts p q.0, (fields_e e Γ _ _ q.1, of-store x Γ))
    fields_s (when e s) Γ ts p h = let q = parted Entered (flat_e e) (flat_s s) h.1 in (fields_e e Γ ts p q.0, (tt, (fields_s s Γ ts _ q.1, tt)))
    fields_s (choose e s t) Γ ts p h = let q = parted Entered (flat_e e) (flat_s s ++ flat_s t) h.1 in let r = parted Entered (flat_s s) (flat_s t) q.1 in
        (fields_e e Γ ts p q.0, (tt, (fields_s s Γ ts _ r.0, (tt, (tt, (fields_s t Γ ts _ r.1, tt))))))
    fields_s (while e s) Γ ts p h = let q = parted Entered (flat_e e) (flat_s s) h.1 in (tt, (fields_e e Γ ts p q.0, (tt, (fields_s s Γ ts _ q.1, (tt, tt)))))
    fields_s (goto a) Γ ts p h = (of-goto Γ a, tt)
    fields_s (assert e) Γ ts p h = (fields_e e Γ ts p h.1, tt)
    fields_s (call a es) Γ ts p h = (fields_es es Γ ts p h.1, tt)
    fields_s (set_level e f) Γ ts p h = let q = parted Entered (flat_e e) (flat_e f) h.1 in (fields_e e Γ ts p q.0, (fields_e f Γ _ _ q.1, tt))
    fields_s (select e r) Γ ts p h = let q = parted Entered (flat_e e) (flat_arms r) h.1 in let n = its-a (entry 30 (count_arms r) (pos 0)) h.0.0 in
        (tt, (fields_e e Γ ts _ q.0, (tt, (fields_arms r p.cell 1 _ Γ ts _ (omega arith) q.1, tt))))
    fields_s (for a e f g s) Γ ts p h =
        let q = parted Entered (flat_e e) (flat_e f ++ (flat_e g ++ flat_s s)) h.1 in let r = parted Entered (flat_e f) (flat_e g ++ flat_s s) q.1 in
        let u = parted Entered (flat_e g) (flat_s s) r.1 in (
          tt,
          (
            tt,
            (
              tt,
              (
                fields_e e Γ ts _ q.0,
                (
                  fields_e f Γ _ _ r.0,
                  (
                    fields_e g Γ _ _ u.0,
                    (
                      tt,
                      (
                        of-entered p.cell _ _ (found Γ ts),
                        (
                          fields_s s _ ts _ u.1,
                          of-turned p.cell _ _ (found Γ ts),
                        ),
                      ),
                    ),
                  ),
                ),
              ),
            ),
          ),
        )

    pub fields_items : (is : Items) (Γ : List Around) (ts : List Ty) (p : At) → Each Entered (flat_items is) → Ops Holdable (code_items gs is Γ ts p)
    fields_items no_item Γ ts p h = tt
    fields_items (label a is) Γ ts p h = (tt, fields_items is Γ ts p h.1)
    fields_items (item s is) Γ ts p h = let q = parted Entered (flat_s s) (flat_items is) h in (fields_s s Γ ts p q.0, fields_items is Γ ts _ q.1)

    fields_arms : (r : Arms) (c i z : ℕ) (Γ : List Around) (ts : List Ty) (p : At) → i + count_arms r < 70000 → Each Entered (flat_arms r) → Ops Holdable (code_arms gs r c i z Γ ts p)
    fields_arms (last_arm s) c i z Γ ts p l h = (tt, (small i (omega arith), (tt, (tt, (fields_s s Γ ts _ h, (tt, (tt, refl)))))))
    fields_arms (arm s r) c i z Γ ts p l h = let q = parted Entered (flat_s s) (flat_arms r) h in
        (tt, (small i (omega arith), (tt, (tt, (fields_s s Γ ts _ q.0, (tt, (tt, fields_arms r c (suc i) z Γ ts _ (omega arith) q.1)))))))

    fields_target : (x : Target) (Γ : List Around) (ts : List Ty) (p : At) → Each Entered (flat_target x) → Ops Holdable (code_target gs x Γ ts p)
    fields_target (to_variable a) Γ ts p h = tt
    fields_target (to_field a e) Γ ts p h = fields_e e Γ ts p h.1

    pub fields_e : (e : Expr) (Γ : List Around) (ts : List Ty) (p : At) → Each Entered (flat_e e) → Ops Holdable (code_e gs e Γ ts p)
    fields_e (number z) Γ ts p h = number_fits (entry 40 0 z) h.0.0
    fields_e (truth b) Γ ts p h = tt
    fields_e (pattern z) Γ ts p h = word_below z (number_fits (entry 42 0 z) h.0.0)
    fields_e (null c) Γ ts p h = tt
    fields_e (variable a) Γ ts p h = of-loading (kept_of a Γ)
    fields_e (invoke a es) Γ ts p h = (fields_es es Γ ts p h.1, tt)
    fields_e (field a e) Γ ts p h = (fields_e e Γ ts p h.1, tt)
    fields_e (make c es) Γ ts p h = (fields_es es Γ ts p h.1, tt)
    fields_e (operate1 o e) Γ ts p h = (fields_e e Γ ts p h.1, tt)
    fields_e (operate2 o e f) Γ ts p h = let q = parted Entered (flat_e e) (flat_e f) h.1 in
        of-way (way_of o (is_ty logical (type_e (scopes_of Γ) e))) o Γ ts (ty_e gs Γ e) (code_e gs e Γ ts p) p (λ us r. code_e gs f Γ us r) (fields_e e Γ ts p q.0) (λ us r. fields_e f Γ us r q.1)
    fields_e (conditional e f g) Γ ts p h = let q = parted Entered (flat_e e) (flat_e f ++ flat_e g) h.1 in let r = parted Entered (flat_e f) (flat_e g) q.1 in
        (fields_e e Γ ts p q.0, (tt, (fields_e f Γ ts _ r.0, (tt, (tt, (fields_e g Γ ts _ r.1, tt))))))
    fields_e (fader e) Γ ts p h = (fields_e e Γ ts p h.1, tt)
    fields_e (block_expr ds is e) Γ ts p h = let q = parted Entered (map flat_decl ds) (flat_items is ++ flat_e e) h.1 in let r = parted Entered (flat_items is) (flat_e e) q.1 in
        of-head bound ds (inside (expression_of ds is) ∷ Γ) p (λ Δ q. let y = code_items gs is (labels is q.address ∷ Δ) ts q in y ▸ code_e gs e Δ ts (after y q)) q.0
        (λ Δ u. (fields_items is (labels is u.address ∷ Δ) ts u r.0, fields_e e Δ ts _ r.1))

    fields_es : (es : Exprs) (Γ : List Around) (ts : List Ty) (p : At) → Each Entered (flat_es es) → Ops Holdable (code_es gs es Γ ts p)
    fields_es no_expr Γ ts p h = tt
    fields_es (expr e es) Γ ts p h = let q = parted Entered (flat_e e) (flat_es es) h in (fields_e e Γ ts p q.0, fields_es es Γ _ _ q.1)
