-- Expressions and statements: Faults finds nothing in them exactly if the rules of Formed give them a type, or make them well formed.
use Rattle.std.specs.Prelude.{◌≡◌, refl, true, List, [], ◌∷◌, ◌++◌, ℕ, suc, ◌+◌, length}
use Rattle.std.proofs.Common.{sym, ◌∙◌, ap, subst, append-nil}
use Rattle.std.proofs.Math.Option.{some}
use Rattle.logic.specs.Lists.{among}
use Rattle.values.specs.Types.{Ty, integer, logical, reference, all_fit}
use Rattle.values.specs.Operators.{unary, binary, op_type}
use Rattle.language.specs.Tree.{Decl, Stmt, block, assign, when, choose, while, goto, assert, call, set_level, select, for, Items, no_item, label, item, Arms, last_arm, arm}
use Rattle.language.specs.Tree.{Target, to_variable, to_field, Expr, number, truth, pattern, null, variable, invoke, field, make, operate1, operate2, conditional, fader}
use Rattle.language.specs.Tree.{block_expr, Exprs, no_expr, expr}
use Rattle.language.specs.Names.{is_label, define, defines_head, defines_items, block_of, expression_of, loop_of}
use Rattle.language.specs.Faults.{with_ty, variable_ty, result_ty, field_ty, type_e, type_target, types_e, is_ty, fit_tys, variable_sort, assignable_sort, class_sort, class_from, field_of, call_of}
use Rattle.language.specs.Faults.{twice, size_s, size_target, size_e, size_items, names_head, faults_head, faults_s, faults_items, faults_arms, faults_target, faults_e, faults_es}
use Rattle.language.specs.Formed.{Blocks, Defines, HasType, t-number, t-truth, t-pattern, t_null, t-variable, t-control, t-invoke, t-field, t-make, t-operate1}
use Rattle.language.specs.Formed.{t-operate2, t-conditional, t-fader, t_block, Fit, f-none, f-more, Assignable, a-variable, a-field, Formed, s-block, s-assign, s-when, s-choose}
use Rattle.language.specs.Formed.{s-while, s-assert, s-goto, s_call, s-set, s-case, s-for, ItemsFormed, i-none, i-label, i-item, ArmsFormed, r_last, r-more}
use Rattle.logic.specs.Tests.{clash, both_left, both_right, both}
use Rattle.language_laws.specs.Tests.{none_left, none_right, none_both, fault-if, no-fault-if, unless, typed-so, is-ty, told, ty-is, same-ty, ty_same, fits-ty}
use Rattle.language_laws.specs.Tests.{ty-fits, fit_none, fit-more, more-fit, has_1, has-ty, so-named, class-named, record-named, field-named, no_result, one-result}
use Rattle.language_laws.specs.Tests.{variable-named, target-named, label-aimed}
use Rattle.language_laws.specs.Once.{Adds, adds-all, adds_none, adds-more, adds-first, head-adds, adds-head}

-- ── from no fault to the rules ──
-- the labels of a block, after the names of its head
pub labels-add : {ss : Blocks} (seen : List ℕ) (p : ℕ) (is : Items) → faults_items ss seen p is ≡ [] → Adds ss seen (defines_items is)
unfolding faults_s defines_items
labels-add seen p no_item h = adds_none seen
labels-add seen p (label a is) h =
    adds-more (define a is_label) (fault-if (among a seen) 3 p (none_left _ _ h)) tt (labels-add (a ∷ seen) (suc p) is (none_right (twice a seen p) _ h))
labels-add {ss} seen p (item s is) h = labels-add seen (p + size_s s) is (none_right (faults_s ss p s) _ h)

-- what a block defines, whichever sort of block it is
block-opens : (ss : Blocks) (p q : ℕ) (ds : List Decl) (is : Items) → faults_head ss [] p ds ≡ [] → faults_items ss (names_head ds) q is ≡ []
    → Defines ss (defines_head ds ++ defines_items is)
block-opens ss p q ds is h k = (head-adds (defines_items is) [] p ds h (rw (append-nil (names_head ds)) (labels-add (names_head ds) q is k))).defines

retype : {ss : Blocks} {e : Expr} {t u : Ty} → some t ≡ some u → HasType ss e t → HasType ss e u
retype {ss} {e} q h = subst (HasType ss e) (cc q) h

mutual
  unfolding faults_s type_e types_e all_fit

  pub typed-E : (ss : Blocks) (p : ℕ) (e : Expr) → faults_e ss p e ≡ [] → (t : Ty) → type_e ss e ≡ some t → HasType ss e t
  typed-E ss p (number z) h t q = retype q t-number
  typed-E ss p (truth b) h t q = retype q t-truth
  typed-E ss p (pattern z) h t q = retype q t-pattern
  typed-E ss p (null c) h t q = retype q (t_null (class-named ss c p h).1)
  typed-E ss p (variable a) h t q = variable-named ss a t q
  typed-E ss p (invoke a es) h t q =
      let k = one-result ss a (types_e ss es) p (none_right (faults_es ss (suc p) es) _ h) in
      retype (sym (ap result_ty k.2.is_found) ∙ q) (t-invoke k.2 (fit-Es ss (suc p) es (none_left _ _ h) k.0 k.3))
  typed-E ss p (field a e) h t q =
      let k = field-named ss a (type_e ss e) p (none_right (faults_e ss (suc p) e) _ h) in
      retype (sym (ap field_ty k.2.is_found) ∙ q) (t-field k.2 (typed-E ss (suc p) e (none_left _ _ h) (reference k.0) k.3))
  typed-E ss p (make c es) h t q =
      let k = record-named ss c (types_e ss es) p (none_right (faults_es ss (suc p) es) _ h) in
      retype q (t-make k.1 (fit-Es ss (suc p) es (none_left _ _ h) k.0 k.2))
  typed-E ss p (operate1 o e) h t q =
      let k = has_1 (type_e ss e) (λ u. op_type (unary o) (u ∷ [])) t q in
      t-operate1 (typed-E ss (suc p) e (none_left _ _ h) k.0 k.1) k.2
  typed-E ss p (operate2 o e f) h t q =
      let k = has_1 (type_e ss e) (λ u. with_ty (type_e ss f) (λ v. op_type (binary o) (u ∷ v ∷ []))) t q in
      let l = has_1 (type_e ss f) (λ v. op_type (binary o) (k.0 ∷ v ∷ [])) t k.2 in
      let r = none_right (faults_e ss (suc p) e) _ h in
      t-operate2 (typed-E ss (suc p) e (none_left _ _ h) k.0 k.1) (typed-E ss (suc p + size_e e) f (none_left _ _ r) l.0 l.1) l.2
  typed-E ss p (conditional e f g) h t q =
      let r = none_right (faults_e ss (suc p) e) _ h in
      let r2 = none_right (faults_e ss (suc p + size_e e) f) _ r in
      let k = unless _ p (none_right (faults_e ss (suc p + size_e e + size_e f) g) _ r2) in
      let l = same-ty (type_e ss f) (type_e ss g) (both_right (is_ty logical (type_e ss e)) _ k) in
      t-conditional (typed-E ss (suc p) e (none_left _ _ h) logical (is-ty logical (type_e ss e) (both_left _ _ k)))
      (typed-E ss (suc p + size_e e) f (none_left _ _ r) t q)
      (typed-E ss (suc p + size_e e + size_e f) g (none_left _ _ r2) t (l.2 ∙ (sym l.1 ∙ q)))
  typed-E ss p (fader e) h t q =
      retype q (t-fader (typed-E ss (suc p) e (none_left _ _ h) integer (told integer (type_e ss e) p (none_right (faults_e ss (suc p) e) _ h))))
  typed-E ss p (block_expr ds is e) h t q =
      let inner = expression_of ds is ∷ ss in
      let r = none_right (faults_head inner [] (suc p) ds) _ h in
      let l = none_left (faults_items inner (names_head ds) (suc p + length ds) is) _ r in
      t_block (block-opens inner (suc p) (suc p + length ds) ds is (none_left _ _ h) l)
      (formed-items inner (names_head ds) (suc p + length ds) is l)
      (typed-E inner (suc p + length ds + size_items is) e (none_right (faults_items inner (names_head ds) (suc p + length ds) is) _ r) t q)

  fit-Es : (ss : Blocks) (p : ℕ) (es : Exprs) → faults_es ss p es ≡ [] → (us : List Ty) → fit_tys (types_e ss es) us ≡ true → Fit ss es us
  fit-Es ss p no_expr h [] q = f-none
  fit-Es ss p no_expr h (u ∷ us) q = clash (cc)
  fit-Es ss p (expr e es) h [] q = absurd (fit_none (type_e ss e) (types_e ss es) q)
  fit-Es ss p (expr e es) h (u ∷ us) q =
      let k = fit-more (type_e ss e) (types_e ss es) u us q in
      f-more (typed-E ss p e (none_left _ _ h) k.0 k.1) k.2 (fit-Es ss (p + size_e e) es (none_right (faults_e ss p e) _ h) us k.3)

  assigned : (ss : Blocks) (p : ℕ) (x : Target) → faults_target ss p x ≡ [] → (t : Ty) → type_target ss x ≡ some t → Assignable ss x t
  assigned ss p (to_variable a) h t q = a-variable (target-named ss a t p h q)
  assigned ss p (to_field a e) h t q =
      let k = field-named ss a (type_e ss e) p (none_right (faults_e ss (suc p) e) _ h) in
      subst (Assignable ss (to_field a e)) (cc (ap field_ty k.2.is_found, q)) (a-field k.2 (typed-E ss (suc p) e (none_left _ _ h) (reference k.0) k.3))

  pub formed-S : (ss : Blocks) (p : ℕ) (s : Stmt) → faults_s ss p s ≡ [] → Formed ss s
  formed-S ss p (block ds is) h =
      let inner = block_of ds is ∷ ss in
      let r = none_right (faults_head inner [] (suc p) ds) _ h in
      s-block (block-opens inner (suc p) (suc p + length ds) ds is (none_left _ _ h) r) (formed-items inner (names_head ds) (suc p + length ds) is r)
  formed-S ss p (assign x e) h =
      let r = none_right (faults_target ss (suc p) x) _ h in
      let k = fits-ty (type_e ss e) (type_target ss x) (unless _ p (none_right (faults_e ss (suc p + size_target x) e) _ r)) in
      s-assign (assigned ss (suc p) x (none_left _ _ h) k.1 k.3) (typed-E ss (suc p + size_target x) e (none_left _ _ r) k.0 k.2) k.4
  formed-S ss p (when e s) h =
      let r = none_right (faults_e ss (suc p) e) _ h in
      s-when (typed-E ss (suc p) e (none_left _ _ h) logical (told logical (type_e ss e) p (none_right (faults_s ss (suc p + size_e e) s) _ r)))
      (formed-S ss (suc p + size_e e) s (none_left _ _ r))
  formed-S ss p (choose e s t) h =
      let r = none_right (faults_e ss (suc p) e) _ h in
      let r2 = none_right (faults_s ss (suc p + size_e e) s) _ r in
      s-choose (typed-E ss (suc p) e (none_left _ _ h) logical (told logical (type_e ss e) p (none_right (faults_s ss (suc p + size_e e + size_s s) t) _ r2)))
      (formed-S ss (suc p + size_e e) s (none_left _ _ r)) (formed-S ss (suc p + size_e e + size_s s) t (none_left _ _ r2))
  formed-S ss p (while e s) h =
      let r = none_right (faults_e ss (suc p) e) _ h in
      s-while (typed-E ss (suc p) e (none_left _ _ h) logical (told logical (type_e ss e) p (none_right (faults_s ss (suc p + size_e e) s) _ r)))
      (formed-S ss (suc p + size_e e) s (none_left _ _ r))
  formed-S ss p (goto a) h = s-goto (label-aimed ss a p h)
  formed-S ss p (assert e) h =
      s-assert (typed-E ss (suc p) e (none_left _ _ h) logical (told logical (type_e ss e) p (none_right (faults_e ss (suc p) e) _ h)))
  formed-S ss p (call a es) h =
      let k = no_result ss a (types_e ss es) p (none_right (faults_es ss (suc p) es) _ h) in
      s_call k.1 (fit-Es ss (suc p) es (none_left _ _ h) k.0 k.2)
  formed-S ss p (set_level e f) h =
      let r = none_right (faults_e ss (suc p) e) _ h in
      let k = unless _ p (none_right (faults_e ss (suc p + size_e e) f) _ r) in
      s-set (typed-E ss (suc p) e (none_left _ _ h) integer (is-ty integer (type_e ss e) (both_left _ _ k)))
      (typed-E ss (suc p + size_e e) f (none_left _ _ r) integer (is-ty integer (type_e ss f) (both_right (is_ty integer (type_e ss e)) _ k)))
  formed-S ss p (select e r) h =
      let l = none_right (faults_e ss (suc p) e) _ h in
      s-case (typed-E ss (suc p) e (none_left _ _ h) integer (told integer (type_e ss e) p (none_right (faults_arms ss (suc p + size_e e) r) _ l)))
      (formed-arms ss (suc p + size_e e) r (none_left _ _ l))
  formed-S ss p (for a e f g s) h =
      let r = none_right (faults_e ss (suc p) e) _ h in
      let r2 = none_right (faults_e ss (suc p + size_e e) f) _ r in
      let r3 = none_right (faults_e ss (suc p + size_e e + size_e f) g) _ r2 in
      let k = unless _ p (none_right (faults_s (loop_of a ∷ ss) (suc p + size_e e + size_e f + size_e g) s) _ r3) in
      let l = both_right (is_ty integer (type_e ss e)) _ k in
      s-for (typed-E ss (suc p) e (none_left _ _ h) integer (is-ty integer (type_e ss e) (both_left _ _ k)))
      (typed-E ss (suc p + size_e e) f (none_left _ _ r) integer (is-ty integer (type_e ss f) (both_left _ _ l)))
      (typed-E ss (suc p + size_e e + size_e f) g (none_left _ _ r2) integer (is-ty integer (type_e ss g) (both_right (is_ty integer (type_e ss f)) _ l)))
      (formed-S (loop_of a ∷ ss) (suc p + size_e e + size_e f + size_e g) s (none_left _ _ r3))

  pub formed-items : (ss : Blocks) (seen : List ℕ) (p : ℕ) (is : Items) → faults_items ss seen p is ≡ [] → ItemsFormed ss is
  formed-items ss seen p no_item h = i-none
  formed-items ss seen p (label a is) h = i-label (formed-items ss (a ∷ seen) (suc p) is (none_right (twice a seen p) _ h))
  formed-items ss seen p (item s is) h = i-item (formed-S ss p s (none_left _ _ h)) (formed-items ss seen (p + size_s s) is (none_right (faults_s ss p s) _ h))

  formed-arms : (ss : Blocks) (p : ℕ) (r : Arms) → faults_arms ss p r ≡ [] → ArmsFormed ss r
  formed-arms ss p (last_arm s) h = r_last (formed-S ss p s h)
  formed-arms ss p (arm s r) h = r-more (formed-S ss p s (none_left _ _ h)) (formed-arms ss (p + size_s s) r (none_right (faults_s ss p s) _ h))

-- ── from the rules to no fault ──
mutual
  unfolding type_e types_e all_fit

  pub type-of : {ss : Blocks} {e : Expr} {t : Ty} → HasType ss e t → type_e ss e ≡ some t
  type-of t-number = refl
  type-of t-truth = refl
  type-of t-pattern = refl
  type-of (t_null d) = refl
  type-of (t-variable d) = ap variable_ty d.is_found
  type-of (t-control d) = ap variable_ty d.is_found
  type-of (t-invoke d fs) = ap result_ty d.is_found
  type-of (t-field d h) = ap field_ty d.is_found
  type-of (t-make d fs) = refl
  type-of (t-operate1 h o) = rw (type-of h) o
  type-of (t-operate2 h k o) = rw (type-of h, type-of k) o
  type-of (t-conditional h k l) = type-of k
  type-of (t-fader h) = refl
  type-of (t_block o is h) = type-of h

  fit_of : {ss : Blocks} {es : Exprs} {us : List Ty} → Fit ss es us → fit_tys (types_e ss es) us ≡ true
  fit_of f-none = refl
  fit_of {ss} (f-more {es = es} {u = u} {us = us} h q fs) = more-fit (types_e ss es) u us (type-of h) q (fit_of fs)

pub target-of : {ss : Blocks} {x : Target} {t : Ty} → Assignable ss x t → type_target ss x ≡ some t
target-of (a-variable d) = ap variable_ty d.is_found
target-of (a-field d h) = ap field_ty d.is_found

-- what a block defines has no fault, and its labels are still to be defined after its head
pub block-heads : (ss : Blocks) (p : ℕ) (ds : List Decl) (is : Items) → Defines ss (defines_head ds ++ defines_items is)
    → (faults_head ss [] p ds ≡ []) × Adds ss (names_head ds) (defines_items is)
block-heads ss p ds is o = let k = adds-head (defines_items is) [] p ds (adds-all o) in (k.0, rw (append-nil (names_head ds)) at k.1)

mutual
  unfolding faults_s type_e defines_items

  pub no-fault-E : {ss : Blocks} {e : Expr} {t : Ty} → HasType ss e t → (p : ℕ) → faults_e ss p e ≡ []
  no-fault-E t-number p = refl
  no-fault-E t-truth p = refl
  no-fault-E t-pattern p = refl
  no-fault-E (t_null d) p = so-named class_sort p d refl
  no-fault-E (t-variable d) p = so-named variable_sort p d refl
  no-fault-E (t-control d) p = so-named variable_sort p d refl
  no-fault-E {ss} (t-invoke {es = es} d fs) p = none_both (no-fault-Es fs (suc p)) (so-named (call_of 1 (types_e ss es)) p d (fit_of fs))
  no-fault-E {ss} (t-field {e = e} d h) p = none_both (no-fault-E h (suc p)) (so-named (field_of (type_e ss e)) p d (ty-is (type-of h)))
  no-fault-E {ss} (t-make {es = es} d fs) p = none_both (no-fault-Es fs (suc p)) (so-named (class_from (types_e ss es)) p d (fit_of fs))
  no-fault-E (t-operate1 h o) p = none_both (no-fault-E h (suc p)) (typed-so p (has-ty (type-of (t-operate1 h o))))
  no-fault-E (t-operate2 {e = e} h k o) p =
      none_both (no-fault-E h (suc p)) (none_both (no-fault-E k (suc p + size_e e)) (typed-so p (has-ty (type-of (t-operate2 h k o)))))
  no-fault-E (t-conditional {e = e} {f = f} h k l) p =
      none_both (no-fault-E h (suc p)) (none_both (no-fault-E k (suc p + size_e e)) (none_both (no-fault-E l (suc p + size_e e + size_e f))
      (typed-so p (both (ty-is (type-of h)) (ty_same (type-of k) (type-of l))))))
  no-fault-E (t-fader h) p = none_both (no-fault-E h (suc p)) (typed-so p (ty-is (type-of h)))
  no-fault-E {ss} (t_block {ds = ds} {is = is} o h k) p =
      let b = block-heads (expression_of ds is ∷ ss) (suc p) ds is o in
      none_both b.0 (none_both (no-fault-items h (names_head ds) (suc p + length ds) b.1) (no-fault-E k (suc p + length ds + size_items is)))

  no-fault-Es : {ss : Blocks} {es : Exprs} {us : List Ty} → Fit ss es us → (p : ℕ) → faults_es ss p es ≡ []
  no-fault-Es f-none p = refl
  no-fault-Es (f-more {e = e} h q fs) p = none_both (no-fault-E h p) (no-fault-Es fs (p + size_e e))

  no-fault-target : {ss : Blocks} {x : Target} {t : Ty} → Assignable ss x t → (p : ℕ) → faults_target ss p x ≡ []
  no-fault-target (a-variable d) p = so-named assignable_sort p d refl
  no-fault-target {ss} (a-field {e = e} d h) p = none_both (no-fault-E h (suc p)) (so-named (field_of (type_e ss e)) p d (ty-is (type-of h)))

  pub no-fault-S : {ss : Blocks} {s : Stmt} → Formed ss s → (p : ℕ) → faults_s ss p s ≡ []
  no-fault-S {ss} (s-block {ds = ds} {is = is} o h) p =
      let b = block-heads (block_of ds is ∷ ss) (suc p) ds is o in
      none_both b.0 (no-fault-items h (names_head ds) (suc p + length ds) b.1)
  no-fault-S (s-assign {x = x} a h q) p =
      none_both (no-fault-target a (suc p)) (none_both (no-fault-E h (suc p + size_target x)) (typed-so p (ty-fits (type-of h) (target-of a) q)))
  no-fault-S (s-when {e = e} h k) p = none_both (no-fault-E h (suc p)) (none_both (no-fault-S k (suc p + size_e e)) (typed-so p (ty-is (type-of h))))
  no-fault-S (s-choose {e = e} {s = s} h k l) p =
      none_both (no-fault-E h (suc p)) (none_both (no-fault-S k (suc p + size_e e)) (none_both (no-fault-S l (suc p + size_e e + size_s s)) (typed-so p (ty-is (type-of h)))))
  no-fault-S (s-while {e = e} h k) p = none_both (no-fault-E h (suc p)) (none_both (no-fault-S k (suc p + size_e e)) (typed-so p (ty-is (type-of h))))
  no-fault-S (s-assert h) p = none_both (no-fault-E h (suc p)) (typed-so p (ty-is (type-of h)))
  no-fault-S (s-goto r) p = rw r refl
  no-fault-S {ss} (s_call {es = es} d fs) p = none_both (no-fault-Es fs (suc p)) (so-named (call_of 0 (types_e ss es)) p d (fit_of fs))
  no-fault-S (s-set {e = e} h k) p =
      none_both (no-fault-E h (suc p)) (none_both (no-fault-E k (suc p + size_e e)) (typed-so p (both (ty-is (type-of h)) (ty-is (type-of k)))))
  no-fault-S (s-case {e = e} h k) p = none_both (no-fault-E h (suc p)) (none_both (no-fault-arms k (suc p + size_e e)) (typed-so p (ty-is (type-of h))))
  no-fault-S (s-for {e = e} {f = f} {g = g} h k l b) p =
      none_both (no-fault-E h (suc p)) (none_both (no-fault-E k (suc p + size_e e)) (none_both (no-fault-E l (suc p + size_e e + size_e f))
      (none_both (no-fault-S b (suc p + size_e e + size_e f + size_e g)) (typed-so p (both (ty-is (type-of h)) (both (ty-is (type-of k)) (ty-is (type-of l))))))))

  pub no-fault-items : {ss : Blocks} {is : Items} → ItemsFormed ss is → (seen : List ℕ) (p : ℕ) → Adds ss seen (defines_items is) → faults_items ss seen p is ≡ []
  no-fault-items i-none seen p a = refl
  no-fault-items (i-label {a = b} h) seen p a =
      let f = adds-first (define b is_label) a in none_both (no-fault-if 3 p f.0) (no-fault-items h (b ∷ seen) (suc p) f.2)
  no-fault-items (i-item {s = s} h k) seen p a = none_both (no-fault-S h p) (no-fault-items k seen (p + size_s s) a)

  no-fault-arms : {ss : Blocks} {r : Arms} → ArmsFormed ss r → (p : ℕ) → faults_arms ss p r ≡ []
  no-fault-arms (r_last h) p = no-fault-S h p
  no-fault-arms (r-more {s = s} h k) p = none_both (no-fault-S h p) (no-fault-arms k (p + size_s s))
