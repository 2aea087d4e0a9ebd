-- What a part that was read is written as: the entries that it was read from, which keep to the layout and nest no deeper than the readers go.
use Rattle.std.specs.Prelude.{◌≡◌, Bool, not, ◌&&◌, ℕ, zero, suc, ◌-◌, ◌≤◌, max, eqb, leb, ℤ, pos, negsuc, nat_abs, length}
use Rattle.std.proofs.Math.Path.{refl, sym}
use Rattle.std.proofs.Common.{◌∙◌, ap, subst, arith}
use Rattle.std.proofs.Math.Bool.{true}
use mathlib.Core.List.{List, [], ◌∷◌, ◌++◌, map, append-nil}
use Rattle.std.proofs.Math.Option.{get_or}
use borrow.Author.Tests.{eqb-true, leb-true}
use Rattle.values.specs.Arithmetic.{is_zero}
use Rattle.values.specs.Values.{between}
use Rattle.language.specs.Measure.{measure_s}
use Rattle.language.specs.Program.{flat_typed, flat_decl, flag, flat_s, flat_items, flat_arms, flat_target, flat_e, flat_es, deep_head, deep_s, deep_items, deep_arms, deep_target, deep_e, deep_es}
use Rattle.logic.specs.Options.{is_some}
use Rattle.logic.specs.Choice.{If◌then◌else◌}
use Rattle.values.specs.Operators.{negate, plus, unary_of, binary_of}
use Rattle.language.specs.Tree.{Typed, Decl, Items, Target, Exprs, Stmt, block, assign, when, choose, while, assert, call, set_level, select, for, to_field, Expr, invoke, field}
use Rattle.language.specs.Tree.{make, operate1, operate2, conditional, fader, block_expr, count_items, count_arms, count_exprs}
use Rattle.language.specs.Table as T
use Rattle.language.specs.Table.{Entry, entry, in_layout, natural, as_typed, ty_of_code, Reader, made, first, form_typed, form_decl, Part, label_part, stmt_part, items_of, arms_of}
use Rattle.language.specs.Table.{exprs_of, Below, form_s, form_part, form_target, form_e, below}
use Rattle.logic.specs.Tests.{clash, both_left, both_right}
use Rattle.language_laws.specs.Codes.{unary-coded, binary-coded, type-coded, nothing-zero, natural-pos}
use Rattle.language_laws.specs.Takes.{Fits, fits-cons, fits-join, fits-none}
use Rattle.language_laws.specs.Yields.{Claim, Yields, yields-here, yields-stop, yields-if, yields-made, yields-two, yields-three, yields-four, yields-times, yields-first}
use Rattle.language_laws.specs.ReadBack.{flat_part, deep_part}

-- entries that are those of a part, keep to the layout and are nested no deeper than so
pub record Kept (d : ℕ) (us vs : List Entry) (n : ℕ) : Type 0 where
  pub written : us ≡ vs
  pub fits : Fits d us n

pub kept-none : {d : ℕ} → Kept d [] [] 0
kept-none = record { written = refl; fits = fits-none }

pub kept_cons : {d n : ℕ} {e f : Entry} {us vs : List Entry} → in_layout e ≡ true → e ≡ f → Kept d us vs n
    → Kept (suc d) (e ∷ us) (f ∷ vs) (suc n)
kept_cons l p h = record { written = λ i. p i ∷ h.written i; fits = fits-cons l h.fits }

pub kept-join : {d n m : ℕ} {us vs ws xs : List Entry} → Kept d us vs n → Kept d ws xs m → Kept d (us ++ ws) (vs ++ xs) (max n m)
kept-join h k = record { written = λ i. h.written i ++ k.written i; fits = fits-join h.fits k.fits }

-- an entry with nothing below it, before others
pub kept-leaf : {d n : ℕ} {e : Entry} {us vs ws : List Entry} → Kept d us (e ∷ []) 1 → Kept d vs ws n → Kept d (us ++ vs) (e ∷ ws) 1
kept-leaf h k =
    let j = kept-join h k in
    record { written = j.written; fits = record { layout = j.fits.layout; depth = h.fits.depth } }

-- ── entries that are those of a part of each sort ──
abbrev pub IsTyped : ℕ → Claim Typed
IsTyped d us x = Kept d us (flat_typed x ∷ []) 1

abbrev pub IsDecl : ℕ → Claim Decl
IsDecl d us x = Kept d us (flat_decl x ∷ []) 1

abbrev pub IsPart : ℕ → Claim Part
IsPart d us p = Kept d us (flat_part p) (deep_part p)

abbrev pub IsStmt : ℕ → Claim Stmt
IsStmt d us s = Kept d us (flat_s s) (deep_s s)

abbrev pub IsTarget : ℕ → Claim Target
IsTarget d us x = Kept d us (flat_target x) (deep_target x)

abbrev pub IsExpr : ℕ → Claim Expr
IsExpr d us e = Kept d us (flat_e e) (deep_e e)

abbrev pub IsHead : ℕ → Claim (List Decl)
IsHead d us ds = Kept d us (map flat_decl ds) (deep_head ds)

abbrev pub IsItems : ℕ → Claim Items
IsItems d us is = Kept d us (flat_items is) (deep_items is)

abbrev pub IsExprs : ℕ → Claim Exprs
IsExprs d us es = Kept d us (flat_es es) (deep_es es)

-- the arms after the first, whatever comes first
abbrev IsMore : ℕ → Claim (List Stmt)
IsMore d us ss = (t : Stmt) (vs : List Entry) → IsStmt d vs t → Kept d (vs ++ us) (flat_arms (arms_of t ss)) (deep_arms (arms_of t ss))

-- ── an entry by its kind and its fields ──
module _ (e : Entry) {k : ℕ} (q : e.kind ≡ k) where
  pub entry-is : {a : ℕ} {z : ℤ} → e.a ≡ a → e.b ≡ z → e ≡ entry k a z
  entry-is p r = λ i. record { kind = q i; a = p i; b = r i }

  -- a test on a, and nothing in b
  named-is : {a : ℕ} (t : Bool) → (t && is_zero e.b) ≡ true → (t ≡ true → e.a ≡ a) → e ≡ entry k a (pos 0)
  named-is t h p = entry-is (p (both_left t (is_zero e.b) h)) (nothing-zero e.b (both_right t (is_zero e.b) h))

  plain-is : (eqb e.a 0 && is_zero e.b) ≡ true → e ≡ entry k 0 (pos 0)
  plain-is h = named-is (eqb e.a 0) h (eqb-true e.a 0)

  -- a number in b
  pub counted_is : {a n : ℕ} → natural e.b ≡ true → a ≡ e.a → n ≡ nat_abs e.b → e ≡ entry k a (pos n)
  counted_is h p r = entry-is (sym p) (rw r (natural-pos e.b h))

  flag_is : (eqb e.a 0 && between 0 1 e.b) ≡ true → e ≡ entry k 0 (flag (not (is_zero e.b)))
  flag_is h = entry-is (eqb-true e.a 0 (both_left (eqb e.a 0) (between 0 1 e.b) h)) (back e.b (both_right (eqb e.a 0) (between 0 1 e.b) h))
    where
      small : (n : ℕ) → n ≤ 1 → pos n ≡ flag (not (is_zero (pos n)))
      small zero h = refl
      small (suc zero) h = refl
      small (suc (suc n)) h = absurd (omega arith)

      back : (z : ℤ) → between 0 1 z ≡ true → z ≡ flag (not (is_zero z))
      back (pos n) h = small n (leb-true n 1 (both_right (leb 0 n) (leb n 1) h))
      back (negsuc n) h = clash (cc)

-- a form by its kind
pub kind-if : {A : Type 0} {r q : Reader A} {T : Claim A} (e : Entry) (k : ℕ) → in_layout e ≡ true
    → (e.kind ≡ k → in_layout (entry k e.a e.b) ≡ true → Yields r T) → Yields q T
    → Yields (λ es. If eqb e.kind k then r es else q es) T
kind-if e k l h g =
    yields-if (eqb e.kind k)
    (λ p. let q = eqb-true e.kind k p in h q (subst (λ (n : ℕ). in_layout (entry n e.a e.b) ≡ true) q l)) (λ p. g)

-- ── a part that is nothing but an entry ──
typed-is : (e : Entry) → e.kind ≡ 10 → (natural e.b && is_some (ty_of_code (nat_abs e.b))) ≡ true → e ≡ flat_typed (as_typed e)
unfolding flat_typed
typed-is e q h =
    let t = ty_of_code (nat_abs e.b) in
    counted_is e q (both_left (natural e.b) (is_some t) h) refl ((type-coded (nat_abs e.b)).back (both_right (natural e.b) (is_some t) h))

yields-typed : {d : ℕ} → Yields (first form_typed) (IsTyped (suc d))
unfolding form_typed in_layout
yields-typed = yields-first form_typed λ e l. kind-if e 10 l (λ q m. yields-here (kept_cons l (typed-is e q m) kept-none)) yields-stop

pub decl-yields : {d : ℕ} (e : Entry) → in_layout e ≡ true → Yields (form_decl e) (λ us x. IsDecl (suc d) (e ∷ us) x)
unfolding form_decl flat_decl in_layout
decl-yields e l =
    kind-if e 10 l (λ q m. yields-here (kept_cons l (typed-is e q m) kept-none))
    (kind-if e 14 l (λ q m. yields-here (kept_cons l (named-is e q (leb e.a 63) m (λ t. refl)) kept-none)) yields-stop)

-- ── the forms, over readers of what stands below ──
pub record Gives (r : Below) (d : ℕ) : Type 0 where
  pub typed : Yields r.typed (IsTyped d)
  pub decl : Yields r.decl (IsDecl d)
  pub part : Yields r.part (IsPart d)
  pub stmt : Yields r.stmt (IsStmt d)
  pub target : Yields r.target (IsTarget d)
  pub expr : Yields r.expr (IsExpr d)

count-items : (ps : List Part) → count_items (items_of ps) ≡ length ps
unfolding count_items items_of
count-items [] = refl
count-items (label_part a ∷ ps) = ap suc (count-items ps)
count-items (stmt_part s ∷ ps) = ap suc (count-items ps)

count-exprs : (es : List Expr) → count_exprs (exprs_of es) ≡ length es
unfolding count_exprs exprs_of
count-exprs [] = refl
count-exprs (e ∷ es) = ap suc (count-exprs es)

count-arms : (s : Stmt) (ss : List Stmt) → count_arms (arms_of s ss) ≡ suc (length ss)
unfolding count_arms arms_of
count-arms s [] = refl
count-arms s (t ∷ ts) = ap suc (count-arms t ts)

module _ {r : Below} {d : ℕ} (G : Gives r d) where
  yields-head : (n : ℕ) → Yields (T.repeated n r.decl) (λ us ds. IsHead d us ds × (length ds ≡ n))
  yields-head n = yields-times (IsHead d) kept-none (λ us vs x xs a b. kept-leaf a b) G.decl n

  pub yields-items : (n : ℕ) → Yields (made items_of (T.repeated n r.part)) (λ us is. IsItems d us is × (count_items is ≡ n))
  unfolding items_of flat_s measure_s
  yields-items n =
      yields-made items_of (yields-times (λ us ps. IsItems d us (items_of ps)) kept-none more G.part n)
      (λ us ps a. (a.0, count-items ps ∙ a.1))
    where
      more : (us vs : List Entry) (p : Part) (ps : List Part) → IsPart d us p → IsItems d vs (items_of ps) → IsItems d (us ++ vs) (items_of (p ∷ ps))
      more us vs (label_part x) ps a b = kept-join a b
      more us vs (stmt_part s) ps a b = kept-join a b

  yields-exprs : (n : ℕ) → Yields (made exprs_of (T.repeated n r.expr)) (λ us es. IsExprs d us es × (count_exprs es ≡ n))
  unfolding exprs_of flat_s measure_s
  yields-exprs n =
      yields-made exprs_of (yields-times (λ us es. IsExprs d us (exprs_of es)) kept-none (λ us vs x xs a b. kept-join a b) G.expr n)
      (λ us es a. (a.0, count-exprs es ∙ a.1))

  yields-arms : (n : ℕ) → Yields (T.repeated n r.stmt) (λ us ss. IsMore d us ss × (length ss ≡ n))
  unfolding arms_of flat_s measure_s
  yields-arms n = yields-times (IsMore d) (λ t vs k. rw (append-nil vs) k) (λ us vs x xs a b t ws k. kept-join k (b x us a)) G.stmt n

  stmt-yields : (e : Entry) → in_layout e ≡ true → Yields (form_s r e) (λ us s. IsStmt (suc d) (e ∷ us) s)
  unfolding form_s flat_s measure_s in_layout
  stmt-yields e l =
      kind-if e 1 l (λ q m. yields-two block (yields-head e.a) (yields-items (nat_abs e.b)) (λ us vs x y a b. kept_cons l (counted_is e q m a.1 b.1) (kept-join a.0 b.0)))
      (kind-if e 21 l (λ q m. yields-two assign G.target G.expr (λ us vs x y a b. kept_cons l (plain-is e q m) (kept-join a b)))
      (kind-if e 22 l (λ q m. yields-two when G.expr G.stmt (λ us vs x y a b. kept_cons l (plain-is e q m) (kept-join a b)))
      (kind-if e 23 l (λ q m. yields-three choose G.expr G.stmt G.stmt (λ us vs ws x y z a b c. kept_cons l (plain-is e q m) (kept-join a (kept-join b c))))
      (kind-if e 24 l (λ q m. yields-two while G.expr G.stmt (λ us vs x y a b. kept_cons l (plain-is e q m) (kept-join a b)))
      (kind-if e 25 l (λ q m. yields-here (kept_cons l (named-is e q true m (λ t. refl)) kept-none))
      (kind-if e 26 l (λ q m. yields-made assert G.expr (λ us x a. kept_cons l (plain-is e q m) a))
      (kind-if e 27 l (λ q m. yields-made (call e.a) (yields-exprs (nat_abs e.b)) (λ us x a. kept_cons l (counted_is e q m refl a.1) a.0))
      (kind-if e 28 l (λ q m. yields-two set_level G.expr G.expr (λ us vs x y a b. kept_cons l (plain-is e q m) (kept-join a b)))
      (kind-if e 30 l (λ q m. yields-three (λ x s ss. select x (arms_of s ss)) G.expr G.stmt (yields-arms (e.a - 1))
      (λ us vs ws x s ss a b c. kept_cons l (named-is e q (leb 1 e.a) m (λ t. omega (arith, leb-true 1 e.a t, c.1, count-arms s ss))) (kept-join a (c.0 s vs b))))
      (kind-if e 31 l (λ q m. yields-four (for e.a) G.expr G.expr G.expr G.stmt
      (λ us vs ws zs x y z t a b c i. kept_cons l (named-is e q true m (λ t. refl)) (kept-join a (kept-join b (kept-join c i)))))
      yields-stop))))))))))

  yields-stmt : Yields (first (form_s r)) (IsStmt (suc d))
  yields-stmt = yields-first (form_s r) stmt-yields

  yields-part : Yields (first (form_part r)) (IsPart (suc d))
  unfolding form_part in_layout
  yields-part =
      yields-first (form_part r) λ e l.
      kind-if e 20 l (λ q m. yields-here (kept_cons l (named-is e q true m (λ t. refl)) kept-none))
      (yields-made stmt_part (stmt-yields e l) (λ us s a. a))

  yields-target : Yields (first (form_target r)) (IsTarget (suc d))
  unfolding form_target flat_s measure_s in_layout
  yields-target =
      yields-first (form_target r) λ e l.
      kind-if e 44 l (λ q m. yields-here (kept_cons l (named-is e q true m (λ t. refl)) kept-none))
      (kind-if e 46 l (λ q m. yields-made (to_field e.a) G.expr (λ us x a. kept_cons l (named-is e q true m (λ t. refl)) a))
      yields-stop)

  yields-expr : Yields (first (form_e r)) (IsExpr (suc d))
  unfolding form_e flat_s measure_s in_layout
  yields-expr =
      yields-first (form_e r) λ e l.
      kind-if e 40 l (λ q m. yields-here (kept_cons l (entry-is e q (eqb-true e.a 0 m) refl) kept-none))
      (kind-if e 41 l (λ q m. yields-here (kept_cons l (flag_is e q m) kept-none))
      (kind-if e 42 l (λ q m. yields-here (kept_cons l (entry-is e q (eqb-true e.a 0 m) refl) kept-none))
      (kind-if e 43 l (λ q m. yields-here (kept_cons l (named-is e q true m (λ t. refl)) kept-none))
      (kind-if e 44 l (λ q m. yields-here (kept_cons l (named-is e q true m (λ t. refl)) kept-none))
      (kind-if e 45 l (λ q m. yields-made (invoke e.a) (yields-exprs (nat_abs e.b)) (λ us x a. kept_cons l (counted_is e q m refl a.1) a.0))
      (kind-if e 46 l (λ q m. yields-made (field e.a) G.expr (λ us x a. kept_cons l (named-is e q true m (λ t. refl)) a))
      (kind-if e 47 l (λ q m. yields-made (make e.a) (yields-exprs (nat_abs e.b)) (λ us x a. kept_cons l (counted_is e q m refl a.1) a.0))
      (kind-if e 48 l (λ q m. yields-made (operate1 (get_or (unary_of e.a) negate)) G.expr
      (λ us x a. kept_cons l (named-is e q (is_some (unary_of e.a)) m (λ t. sym ((unary-coded e.a).back t))) a))
      (kind-if e 49 l (λ q m. yields-two (operate2 (get_or (binary_of e.a) plus)) G.expr G.expr
      (λ us vs x y a b. kept_cons l (named-is e q (is_some (binary_of e.a)) m (λ t. sym ((binary-coded e.a).back t))) (kept-join a b)))
      (kind-if e 50 l (λ q m. yields-three conditional G.expr G.expr G.expr (λ us vs ws x y z a b c. kept_cons l (plain-is e q m) (kept-join a (kept-join b c))))
      (kind-if e 51 l (λ q m. yields-made fader G.expr (λ us x a. kept_cons l (plain-is e q m) a))
      (kind-if e 53 l (λ q m. yields-three block_expr (yields-head e.a) (yields-items (nat_abs e.b)) G.expr
      (λ us vs ws x y z a b c. kept_cons l (counted_is e q m a.1 b.1) (kept-join a.0 (kept-join b.0 c))))
      yields-stop))))))))))))

pub gives : (d : ℕ) → Gives (below d) d
unfolding below
gives zero = record { typed = yields-stop; decl = yields-stop; part = yields-stop; stmt = yields-stop; target = yields-stop; expr = yields-stop }
gives (suc d) =
    let G : Gives (below d) d = gives d in
    record { typed = yields-typed; decl = yields-first form_decl decl-yields; part = yields-part G; stmt = yields-stmt G; target = yields-target G; expr = yields-expr G }
