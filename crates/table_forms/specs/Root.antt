-- What the walkers of the root ask and answer.
use Rattle.std.specs.Prelude.{◌≡◌, refl, Bool, true, false, List, [], ◌∷◌, ◌++◌, map, ℕ, suc, ◌+◌, ◌-◌, ◌*◌, ◌/◌, ◌%◌, ◌≤◌, eqb, length, Ok}
use Rattle.std.proofs.Common.{ap, sym, ◌∙◌, append_assoc, append-nil, arith, add-zero, add-one, length-append, ne_eqb}
use Rattle.language.specs.Program.{flat_typed, flat_decl, result_code, flat_body, flat_global, flat_head, deep_body, deep_global}
use Rattle.logic.specs.Choice.{If◌then◌else◌}
use Rattle.words.specs.Numbers.{half_at, word_at}
use Rattle.values.specs.Types.{Ty, ty_code}
use Rattle.values.specs.Ends.{Refusal, refusal}
use Rattle.language.specs.Tree.{Typed, Decl, declare, holding, Stmt, Expr, Body, proper, function, Global, local, class, procedure}
use Rattle.language.specs.Names.{Scope}
use Rattle.language.specs.Faults.{twice, type_faults, mistyped_unless, type_e, faults_typed, faults_head, names_head, names_typed, names_global, faults_body, body_fits, faults_global, faults_globals, size_global}
use Rattle.language_laws.specs.Claims.{entries_of}
use Rattle.table_scopes.specs.Environment.{Item, env_of}
use Rattle.table_entries.specs.Entries.{length-entries}
use Rattle.table_entries.specs.Stands.{Stands, stands-tail, stands-within}
use Rattle.table_scopes.specs.Flaws.{Verdict, Says, once_flaw, head_flaws}
use Rattle.table_scopes.specs.Trees.{length-map, typed-decls, length-Body, length-Global}
use Rattle.table_scopes.specs.Sees.{Sees}
use Rattle.table_scopes.specs.Once.{OnceAll}
use Rattle.table_scopes.specs.Defines.{OnceHead, seen_head, once-head, head-faults}
use Rattle.logic.specs.Tests.{eqb_comm}
use Rattle.table_types.specs.Types.{ty_num, code-some, is_number}
use Rattle.table_types.specs.Settles.{Types}
use Rattle.table_forms.specs.Forms.{form_s, form_e, form-expr, form-stmt, flat-S, flat-E, deep-S, deep-E, valid-S, valid-E, once-S, once-E, faults-S, faults-E, type-E, StmtForm, ExprForm}
use Rattle.table_forms.specs.Walk.{Table, Ready, Asks, Answers, Typed as TypedAs}
use Rattle.table_forms.specs.Part.{head_of, room-le, fine-type}
use Rattle.table_forms.specs.Globals.{items_of, global_items}

-- ── names defined once, at the root ──
unfoldable pub OnceGlobal : List Item → List ℕ → ℕ → Global → Type 0
OnceGlobal v seen p (local d) = OnceHead v seen p (d ∷ [])
OnceGlobal v seen p (class c xs) = (once_flaw v c p ≡ twice c seen p) × OnceHead v (c ∷ seen) (suc p) (map declare xs)
OnceGlobal v seen p (procedure a xs b) = once_flaw v a p ≡ twice a seen p

unfoldable pub OnceGlobals : List Item → List ℕ → ℕ → List Global → Type 0
OnceGlobals v seen p [] = Unit {0}
OnceGlobals v seen p (g ∷ gs) = OnceGlobal v seen p g × OnceGlobals v (names_global g seen) (p + size_global g) gs

unfoldable pub seen_globals : List Global → List ℕ → List ℕ
seen_globals [] seen = seen
seen_globals (g ∷ gs) seen = seen_globals gs (names_global g seen)

seen-typed : (xs : List Typed) (seen : List ℕ) → seen_head (map declare xs) seen ≡ names_typed xs seen
unfolding seen_head names_typed
seen-typed [] seen = refl
seen-typed (x ∷ xs) seen = seen-typed xs (x.name ∷ seen)

local-names : (d : Decl) (seen : List ℕ) → seen_head (d ∷ []) seen ≡ names_head (d ∷ []) ++ seen
unfolding seen_head names_head
local-names (declare x) seen = refl
local-names (holding g) seen = refl

once-global : (v : List Item) (seen : List ℕ) (p : ℕ) (g : Global) (js : List Item) → OnceAll v seen (items_of p g ++ js) → OnceGlobal v seen p g × OnceAll v (names_global g seen) js
unfolding items_of OnceAll OnceGlobal
once-global v seen p (local d) js o = let t = once-head v seen 4 p (d ∷ []) js o in (t.0, rw (local-names d seen) at t.1)
once-global v seen p (class c xs) js o =
    let t = once-head v (c ∷ seen) (65536 + c) (suc p) (map declare xs) js o.1 in ((o.0, t.0), rw (seen-typed xs (c ∷ seen)) at t.1)
once-global v seen p (procedure a xs b) js o = (o.0, o.1)

pub once-globals : (v : List Item) (seen : List ℕ) (p : ℕ) (gs : List Global) (js : List Item) → OnceAll v seen (global_items p gs ++ js) → OnceGlobals v seen p gs × OnceAll v (seen_globals gs seen) js
unfolding global_items OnceGlobals seen_globals
once-globals v seen p [] js o = (tt, o)
once-globals v seen p (g ∷ gs) js o =
    let t = once-global v seen p g (global_items (p + size_global g) gs ++ js) (rw (append_assoc (items_of p g) (global_items (p + size_global g) gs) js) at o) in
    let r = once-globals v (names_global g seen) (p + size_global g) gs js t.1 in
    ((t.0, r.0), r.1)

-- ── the faults of the root's declarations, and then those of its items ──
unfoldable pub faults_declared : List Scope → List ℕ → ℕ → List Global → List Refusal
faults_declared ss seen p [] = []
faults_declared ss seen p (g ∷ gs) = faults_global ss seen p g ++ faults_declared ss (names_global g seen) (p + size_global g) gs

pub faults-then : (ss : List Scope) (seen : List ℕ) (p : ℕ) (gs : List Global) (k : List ℕ → ℕ → List Refusal)
    → faults_globals ss seen p gs k ≡ faults_declared ss seen p gs ++ k (seen_globals gs seen) (p + length (flat_head gs))
unfolding faults_globals faults_declared seen_globals flat_head
faults-then ss seen p [] k = rw (add-zero p)
faults-then ss seen p (g ∷ gs) k =
    let e : p + size_global g + length (flat_head gs) ≡ p + length (flat_global g ++ flat_head gs) = omega (arith, length-append (flat_global g) (flat_head gs), length-Global g) in
    ap (λ (xs : List Refusal). faults_global ss seen p g ++ xs) (faults-then ss (names_global g seen) (p + size_global g) gs k)
    ∙ rw (
      e,
      append_assoc (faults_global ss seen p g) (faults_declared ss (names_global g seen) (p + size_global g) gs)
          (k (seen_globals gs (names_global g seen)) (p + length (flat_global g ++ flat_head gs))),
    )

pub typed-faults : (ss : List Scope) (seen : List ℕ) (p : ℕ) (xs : List Typed) → faults_typed ss seen p xs ≡ faults_head ss seen p (map declare xs)
unfolding faults_typed faults_head
typed-faults ss seen p [] = refl
typed-faults ss seen p (x ∷ xs) =
    rw (typed-faults ss (x.name ∷ seen) (suc p) xs, append-nil (type_faults ss x.type p))
    (sym (append_assoc (twice x.name seen p) (type_faults ss x.type p) (faults_head ss (x.name ∷ seen) (suc p) (map declare xs))))

-- ── the body of a procedure ──
pub record ReadyBody (b : Body) (ss : List Scope) (l part : List ℕ) (result at : ℕ) (sizes env : List ℕ) (top : ℕ) : Type 0 where
  pub table : Table l part sizes at
  pub stands : Stands (entries_of l) at (flat_body b)
  pub deep : deep_body b ≤ 62
  pub room : 4 * (top + length (flat_body b)) ≤ length env
  pub sees : Sees l (env_of env top) ss
  pub code : result ≡ result_code b

pub record AsksBody (l part : List ℕ) (result at : ℕ) (sizes env : List ℕ) (top : ℕ) : Type 0 where
  pub body : Body
  pub scopes : List Scope
  pub ready : ReadyBody body scopes l part result at sizes env top

abbrev pub TypesBody : Verdict → List Scope → Body → Type 0
TypesBody r ss (proper s) = Unit {0}
TypesBody r ss (function t e) = Types r (type_e ss e)

pub record JudgedBody (r : Verdict) (ss : List Scope) (at : ℕ) (b : Body) : Type 0 where
  pub says : Says r (faults_body ss at b)
  pub types : TypesBody r ss b

pub record AnswersBody (l part : List ℕ) (result at : ℕ) (sizes old new : List ℕ) (top : ℕ) (r : Verdict) : Type 0 where
  pub kept : env_of new top ≡ env_of old top
  pub same : length new ≡ length old
  pub judged : (b : Body) (ss : List Scope) → ReadyBody b ss l part result at sizes old top → JudgedBody r ss at b

ready-proper : (s : Stmt) {ss : List Scope} {l part : List ℕ} {result at : ℕ} {sizes env : List ℕ} {top : ℕ}
    → ReadyBody (proper s) ss l part result at sizes env top → Ready (form_s s) ss [] l part 62 at sizes env top
unfolding flat_body
ready-proper s {env = env} {top = top} q =
    record {
      table = q.table;
      valid = valid-S s;
      stands = rw (flat-S s) at q.stands;
      deep = omega (arith, q.deep, deep-S s);
      room = omega (arith, q.room, room-le (form_s s), ap length (flat-S s));
      sees = q.sees;
      once = once-S (env_of env top) [] _ s;
    }

ready-function : (t : Ty) (e : Expr) {ss : List Scope} {l part : List ℕ} {result at : ℕ} {sizes env : List ℕ} {top : ℕ}
    → ReadyBody (function t e) ss l part result at sizes env top → Ready (form_e e) ss [] l part 62 at sizes env top
unfolding flat_body
ready-function t e {env = env} {top = top} q =
    record {
      table = q.table;
      valid = valid-E e;
      stands = rw (flat-E e) at q.stands;
      deep = omega (arith, q.deep, deep-E e);
      room = omega (arith, q.room, room-le (form_e e), ap length (flat-E e));
      sees = q.sees;
      once = once-E (env_of env top) [] _ (form_e e) (form-expr e);
    }

module _ {l part : List ℕ} {result at : ℕ} {sizes : List ℕ} {top : ℕ} where
  asks-proper : {env : List ℕ} (b : Body) (ss : List Scope) → ReadyBody b ss l part result at sizes env top → result ≡ 0 → Asks StmtForm l part 62 at sizes env top
  asks-proper (proper s) ss q e = record { form = form_s s; scopes = ss; seen = []; holds = form-stmt s; ready = ready-proper s q }
  asks-proper (function t x) ss q e = absurd (code-some t (sym q.code ∙ e))

  pub body-statement : {env : List ℕ} → AsksBody l part result at sizes env top → result ≡ 0 → Asks StmtForm l part 62 at sizes env top
  body-statement q e = asks-proper q.body q.scopes q.ready e

  asks-function : {env : List ℕ} (b : Body) (ss : List Scope) → ReadyBody b ss l part result at sizes env top → ¬ (result ≡ 0) → Asks ExprForm l part 62 at sizes env top
  asks-function (proper s) ss q e = absurd (e q.code)
  asks-function (function t x) ss q e = record { form = form_e x; scopes = ss; seen = []; holds = form-expr x; ready = ready-function t x q }

  pub body-expression : {env : List ℕ} → AsksBody l part result at sizes env top → ¬ (result ≡ 0) → Asks ExprForm l part 62 at sizes env top
  body-expression q e = asks-function q.body q.scopes q.ready e

  judged-proper : {old new : List ℕ} {r : Verdict} → Answers StmtForm l part 62 at sizes old new top r → result ≡ 0 → (b : Body) (ss : List Scope)
      → ReadyBody b ss l part result at sizes old top → JudgedBody r ss at b
  judged-proper y e (proper s) ss q = record { says = rw (faults-S ss [] at s) (y.judged (form_s s) ss [] (form-stmt s) (ready-proper s q)); types = tt }
  judged-proper y e (function t x) ss q = absurd (code-some t (sym q.code ∙ e))

  pub body-proper : {old new : List ℕ} {r : Verdict} → Answers StmtForm l part 62 at sizes old new top r → result ≡ 0 → AnswersBody l part result at sizes old new top r
  body-proper y e = record { kept = y.kept; same = y.same; judged = λ b ss q. judged-proper y e b ss q }

  judged-function : {old new : List ℕ} {r : Verdict} → TypedAs ExprForm l part 62 at sizes old new top r → ¬ (result ≡ 0)
      → (b : Body) (ss : List Scope) → ReadyBody b ss l part result at sizes old top → JudgedBody r ss at b
  judged-function y e (proper s) ss q = absurd (e q.code)
  judged-function y e (function t x) ss q =
      let d = y.judged (form_e x) ss [] (form-expr x) (ready-function t x q) in
      record { says = rw (faults-E ss [] at x) d.says; types = rw (type-E ss x) d.types }

  pub body-function : {old new : List ℕ} {r : Verdict} → TypedAs ExprForm l part 62 at sizes old new top r → ¬ (result ≡ 0) → AnswersBody l part result at sizes old new top r
  body-function y e = record { kept = y.kept; same = y.same; judged = λ b ss q. judged-function y e b ss q }

-- ── the heading of a procedure ──
unfoldable pub result_flaw : ℕ → ℕ → ℕ → List Refusal
result_flaw n t p = If eqb (n % 256) 0 then [] else If eqb (n % 256) t then [] else refusal 4 p ∷ []

tested : (p : ℕ) (b : Bool) → (If b then [] else refusal 4 p ∷ []) ≡ mistyped_unless b p
tested p true = refl
tested p false = refl

pub body-result : (n p : ℕ) (b : Body) (ss : List Scope) (r : Verdict) (t : ℕ) → n % 256 ≡ result_code b → r ≡ Ok t → TypesBody r ss b → result_flaw n t p ≡ mistyped_unless (body_fits ss b) p
unfolding result_flaw
body-result n p (proper s) ss r t e z h = rw e
body-result n p (function u x) ss r t e z h =
    let k = fine-type r t (type_e ss x) z h in
    rw (e, ne_eqb (ty_code u) 0 (code-some u), is_number u (type_e ss x), k) (rw (eqb_comm (ty_code u) (ty_num (type_e ss x))) (tested p (eqb (ty_num (type_e ss x)) (ty_code u))))

-- ── declarations of the root ──
pub record ReadyGlobal (g : Global) (ss : List Scope) (seen l part : List ℕ) (at : ℕ) (sizes env : List ℕ) (top : ℕ) : Type 0 where
  pub table : Table l part sizes at
  pub stands : Stands (entries_of l) at (flat_global g)
  pub deep : deep_global g ≤ 63
  pub room : 4 * (top + size_global g) ≤ length env
  pub sees : Sees l (env_of env top) ss
  pub once : OnceGlobal (env_of env top) seen at g

pub record AsksGlobal (P : Global → Type 0) (l part : List ℕ) (at : ℕ) (sizes env : List ℕ) (top : ℕ) : Type 0 where
  pub global : Global
  pub scopes : List Scope
  pub seen : List ℕ
  pub holds : P global
  pub ready : ReadyGlobal global scopes seen l part at sizes env top

pub record AnswersGlobal (P : Global → Type 0) (l part : List ℕ) (at : ℕ) (sizes old new : List ℕ) (top : ℕ) (r : Verdict) : Type 0 where
  pub kept : env_of new top ≡ env_of old top
  pub same : length new ≡ length old
  pub judged : (g : Global) (ss : List Scope) (seen : List ℕ) → P g → ReadyGlobal g ss seen l part at sizes old top → Says r (faults_global ss seen at g)

abbrev pub Any : Global → Type 0
Any g = Unit {0}

abbrev pub IsProcedure : Global → Type 0
IsProcedure (local d) = ⊥
IsProcedure (class c xs) = ⊥
IsProcedure (procedure a xs b) = Unit {0}

abbrev kind_of : Global → ℕ
kind_of (local (declare x)) = 10
kind_of (local (holding g)) = 14
kind_of (class c xs) = 11
kind_of (procedure a xs b) = 12

pub record GlobalHead (g : Global) (l part : List ℕ) (at : ℕ) : Type 0 where
  pub kind : half_at part 0 ≡ kind_of g
  pub long : 8 ≤ length part
  pub small : at + 1 ≤ 2048
  pub fits : 8 * (at + size_global g) ≤ length l
  pub whole : length part ≡ length l - 8 * at

pub global-head : (g : Global) {ss : List Scope} {seen l part : List ℕ} {at : ℕ} {sizes env : List ℕ} {top : ℕ} → ReadyGlobal g ss seen l part at sizes env top → GlobalHead g l part at
unfolding flat_global flat_decl flat_typed
global-head (local (declare x)) q =
    let d = head_of _ _ q.table q.stands in record {
      kind = d.kind;
      long = omega (arith, d.long, d.within);
      small = omega (arith, d.within, q.table.legible.short);
      fits = d.within;
      whole = d.long;
    }
global-head (local (holding g)) q =
    let d = head_of _ _ q.table q.stands in record {
      kind = d.kind;
      long = omega (arith, d.long, d.within);
      small = omega (arith, d.within, q.table.legible.short);
      fits = d.within;
      whole = d.long;
    }
global-head (class c xs) {l = l} q =
    let d = head_of _ _ q.table q.stands in record {
      kind = d.kind;
      long = omega (arith, d.long, d.within);
      small = omega (arith, d.within, q.table.legible.short);
      fits =
          omega (arith, stands-within _ _ q.stands, length-entries (length l / 8) l, length-map flat_typed xs);
      whole = d.long;
    }
global-head (procedure a xs b) {l = l} q =
    let d = head_of _ _ q.table q.stands in record {
      kind = d.kind;
      long = omega (arith, d.long, d.within);
      small = omega (arith, d.within, q.table.legible.short);
      fits =
          omega (
            arith,
            stands-within _ _ q.stands,
            length-entries (length l / 8) l,
            length-append (map flat_typed xs) (flat_body b),
            length-map flat_typed xs,
            length-Body b,
          );
      whole = d.long;
    }

-- a class: its fields, then itself
class-says : (g : Global) {ss : List Scope} {seen l part : List ℕ} {at : ℕ} {sizes env : List ℕ} {top : ℕ} (r : Verdict) → ReadyGlobal g ss seen l part at sizes env top → half_at part 0 ≡ 11
    → Says r (head_flaws l (env_of env top) (at + 1) (word_at part 4) ++ once_flaw (env_of env top) (half_at part 2) at) → Says r (faults_global ss seen at g)
unfolding flat_global OnceGlobal
class-says (local (declare x)) r q e h = absurd (omega (arith, (global-head (local (declare x)) q).kind))
class-says (local (holding g)) r q e h = absurd (omega (arith, (global-head (local (holding g)) q).kind))
class-says (procedure a xs b) r q e h = absurd (omega (arith, (global-head (procedure a xs b) q).kind))
class-says (class c xs) {ss} {seen} {l} {part} {at} {sizes} {env} {top} r q e h =
    let d = head_of _ _ q.table q.stands in
    let s : Stands (entries_of l) (at + 1) (map flat_decl (map declare xs)) = rw (typed-decls xs) at (stands-tail _ _ q.stands) in
    let f : head_flaws l (env_of env top) (at + 1) (length xs) ≡ faults_typed ss (c ∷ seen) (suc at) xs
    =
    ap (head_flaws l (env_of env top) (at + 1)) (sym (length-map declare xs))
    ∙ head-faults q.table.legible q.sees (at + 1) (map declare xs) (c ∷ seen) s (rw (add-one at) q.once.1)
    ∙ rw (add-one at) (sym (typed-faults ss (c ∷ seen) (suc at) xs)) in
    rw (d.b (length xs) refl, d.a, f, q.once.0) at h

pub class-answer : {P : Global → Type 0} {l part : List ℕ} {at : ℕ} {sizes env : List ℕ} {top : ℕ} {r : Verdict} → half_at part 0 ≡ 11
    → Says r (head_flaws l (env_of env top) (at + 1) (word_at part 4) ++ once_flaw (env_of env top) (half_at part 2) at)
    → AnswersGlobal P l part at sizes env env top r
class-answer {r = r} e h = record { kept = refl; same = refl; judged = λ g ss seen p q. class-says g r q e h }

class-fits : (g : Global) {ss : List Scope} {seen l part : List ℕ} {at : ℕ} {sizes env : List ℕ} {top : ℕ}
    → ReadyGlobal g ss seen l part at sizes env top → half_at part 0 ≡ 11 → 8 * (at + 1 + word_at part 4) ≤ length l
unfolding flat_global
class-fits (local (declare x)) q e = absurd (omega (arith, (global-head (local (declare x)) q).kind))
class-fits (local (holding g)) q e = absurd (omega (arith, (global-head (local (holding g)) q).kind))
class-fits (procedure a xs b) q e = absurd (omega (arith, (global-head (procedure a xs b) q).kind))
class-fits (class c xs) q e = let d = head_of _ _ q.table q.stands in rw (d.b (length xs) refl) (omega (arith, (global-head (class c xs) q).fits))

pub class-asks : {P : Global → Type 0} {l part : List ℕ} {at : ℕ} {sizes env : List ℕ} {top : ℕ} → AsksGlobal P l part at sizes env top
    → half_at part 0 ≡ 11 → (8 ≤ length part) × (8 * (at + 1 + word_at part 4) ≤ length l) × (4 * top ≤ length env)
class-asks q e = ((global-head q.global q.ready).long, class-fits q.global q.ready e, omega (arith, q.ready.room))

-- a variable or a hold
local-says : (g : Global) {ss : List Scope} {seen l part : List ℕ} {at : ℕ} {sizes env : List ℕ} {top : ℕ} (r : Verdict)
    → ReadyGlobal g ss seen l part at sizes env top → ¬ (half_at part 0 ≡ 11) → ¬ (half_at part 0 ≡ 12)
    → Says r (head_flaws l (env_of env top) at 1) → Says r (faults_global ss seen at g)
unfolding flat_global OnceGlobal
local-says (class c xs) r q e f h = absurd (e (global-head (class c xs) q).kind)
local-says (procedure a xs b) r q e f h = absurd (f (global-head (procedure a xs b) q).kind)
local-says (local d) {ss} {seen} {l} {part} {at} r q e f h = rw (head-faults q.table.legible q.sees at (d ∷ []) seen q.stands q.once) at h

pub local-answer : {P : Global → Type 0} {l part : List ℕ} {at : ℕ} {sizes env : List ℕ} {top : ℕ} {r : Verdict} → ¬ (half_at part 0 ≡ 11)
    → ¬ (half_at part 0 ≡ 12) → Says r (head_flaws l (env_of env top) at 1)
    → AnswersGlobal P l part at sizes env env top r
local-answer {r = r} e f h = record { kept = refl; same = refl; judged = λ g ss seen p q. local-says g r q e f h }

pub is-procedure : (g : Global) {ss : List Scope} {seen l part : List ℕ} {at : ℕ} {sizes env : List ℕ} {top : ℕ} → ReadyGlobal g ss seen l part at sizes env top → half_at part 0 ≡ 12 → IsProcedure g
is-procedure (local (declare x)) q e = absurd (omega (arith, (global-head (local (declare x)) q).kind))
is-procedure (local (holding g)) q e = absurd (omega (arith, (global-head (local (holding g)) q).kind))
is-procedure (class c xs) q e = absurd (omega (arith, (global-head (class c xs) q).kind))
is-procedure (procedure a xs b) q e = tt

pub procedure-asks : {P : Global → Type 0} {l part : List ℕ} {at : ℕ} {sizes env : List ℕ} {top : ℕ} → AsksGlobal P l part at sizes env top
    → half_at part 0 ≡ 12 → AsksGlobal IsProcedure l part at sizes env top
procedure-asks q e = record { global = q.global; scopes = q.scopes; seen = q.seen; holds = is-procedure q.global q.ready e; ready = q.ready }

pub procedure-answer : {P : Global → Type 0} {l part : List ℕ} {at : ℕ} {sizes old new : List ℕ} {top : ℕ} {r : Verdict} → half_at part 0 ≡ 12
    → AnswersGlobal IsProcedure l part at sizes old new top r → AnswersGlobal P l part at sizes old new top r
procedure-answer e y = record { kept = y.kept; same = y.same; judged = λ g ss seen p q. y.judged g ss seen (is-procedure g q e) q }

pub size-least : (g : Global) → 1 ≤ size_global g
size-least (local d) = omega arith
size-least (class c xs) = omega arith
size-least (procedure a xs b) = omega arith

pub global-asks : {P : Global → Type 0} {l part : List ℕ} {at : ℕ} {sizes env : List ℕ} {top : ℕ} → AsksGlobal P l part at sizes env top
    → (8 ≤ length part) × (8 * (at + 1) ≤ length l) × (4 * top ≤ length env)
global-asks q = let d = global-head q.global q.ready in (d.long, omega (arith, d.fits, size-least q.global), omega (arith, q.ready.room))
