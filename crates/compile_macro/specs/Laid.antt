-- The code of bodies one after the other: where each body's lines lie in the macro.
use Rattle.std.proofs.Math.Bool.{true}
use Rattle.std.specs.Prelude.{false, ◌≡◌, leb, length, drop}
use Rattle.std.proofs.Math.Path.{refl, subst}
use Rattle.std.proofs.Common.{ap, sym, ◌∙◌, arith}
use mathlib.Core.List.{List, [], ◌∷◌, ◌++◌}
use Rattle.std.proofs.Math.Option.{Option, none, some}
use Prim.Native.Nat.{ℕ, zero, suc, ◌+◌, ◌≤◌, ◌<◌}
use Rattle.std.proofs.Math.ListN.{get_elem?}
use borrow.Author.Tests.{le-ltb}
use Rattle.bytecode.specs.Macro.{Body, Shape, Macro, shape_in}
use Rattle.bytecode.specs.Instructions.{Instr, body_at, end_of, in_body}
use Rattle.bytecode.specs.Machine.{fetch}
use Rattle.bytecode.specs.Rules.{body_of, is_first, body_fault, into, at_first, fault_at}
use Rattle.logic.specs.Lists.{Each}
use Rattle.logic.specs.OptionLaws.{never-some, same_some}
use Rattle.bytecode_laws.specs.Terms.{RisesFrom, WellFormed}
use Rattle.bytecode_laws.specs.Bodies.{within, bounds, body_is, no-first, inside-body, at-first}
use Rattle.compile_code.specs.Code.{Code, nil, op, mark, cell, ◌▸◌, At, after, Line, line, first, lay, placed}
use Rattle.compile_code.specs.Encode.{Part, lines_of, heads_of, records_of}
use Rattle.compile_simulation.specs.Meets.{Setting}
use Rattle.compile_simulation.specs.Placed.{Stands}
use Rattle.compile_rules.specs.Records.{Writable}
use Rattle.compile_rules.specs.Shown.{shape_at, shown, fetched}
use Rattle.compile_rules.specs.Lines.{dropped}
use Rattle.compile_rules.specs.Flows.{Marks}
use Rattle.compile_rules.specs.Faultless.{Lined, NotFirst, Faultless}
use Rattle.compile_rules.specs.Bodies.{lines_alone}
use Rattle.logic.specs.Tests.{and-false}

-- ── lengths ──
unfoldable pub ops : Code → ℕ
ops nil = 0
ops (op i) = 1
ops (mark s) = 0
ops (cell t) = 0
ops (x ▸ y) = ops x + ops y

pub after-ops : (x : Code) (p : At) → (after x p).address ≡ p.address + ops x
unfolding after ops
after-ops nil p = omega arith
after-ops (op i) p = omega arith
after-ops (mark s) p = omega arith
after-ops (cell t) p = omega arith
after-ops (x ▸ y) p = let q = after-ops x p in let r = after-ops y (after x p) in omega arith

lay-app : (x : Code) (o : Option Shape) (f g : Option Shape → List Line) (K : List Line) → ((p : Option Shape) → g p ≡ f p ++ K) → lay x o g ≡ lay x o f ++ K
unfolding lay
lay-app nil o f g K h = h o
lay-app (op i) o f g K h = ap (λ ls. line o i ∷ ls) (h none)
lay-app (mark s) o f g K h = h (first o s)
lay-app (cell t) o f g K h = h o
lay-app (x ▸ y) o f g K h = lay-app x o (λ p. lay y p f) (λ p. lay y p g) K (λ p. lay-app y p f g K h)

lay-length : (x : Code) (o : Option Shape) (f : Option Shape → List Line) (n : ℕ) → ((p : Option Shape) → length (f p) ≡ n) → length (lay x o f) ≡ ops x + n
unfolding lay ops
lay-length nil o f n h = h o ∙ omega arith
lay-length (op i) o f n h = let q = h none in omega arith
lay-length (mark s) o f n h = h (first o s) ∙ omega arith
lay-length (cell t) o f n h = h o ∙ omega arith
lay-length (x ▸ y) o f n h = lay-length x o (λ p. lay y p f) (ops y + n) (λ p. lay-length y p f n h) ∙ omega arith

abbrev pub alone : Code → List Line
alone x = lay x none (λ o. [])

pub alone-length : (x : Code) → length (alone x) ≡ ops x
alone-length x = lay-length x none (λ o. []) 0 (λ p. refl) ∙ omega arith

-- a body's code ends with an op
abbrev pub Closed : Code → Type 0
Closed x = (y : Code) × (i : Instr) × (x ≡ y ▸ op i)

closed-app : (x : Code) (K : List Line) → Closed x → lay x none (λ o. K) ≡ alone x ++ K
unfolding lay
closed-app x K (y, i, e) = rw e (lay-app y none (λ p. line p i ∷ []) (λ p. line p i ∷ K) K (λ p. refl))

closed_some : (x : Code) → Closed x → 1 ≤ ops x
unfolding ops
closed_some x (y, i, e) = let z : ops x ≡ ops y + 1 = ap ops e in omega arith

-- ── bodies one after the other, from address a on ──
abbrev pub Chain : ℕ → List Part → Type 0
Chain a [] = Unit {0}
Chain a (p ∷ ps) = (p.head.first ≡ a) × Closed p.code × Chain (a + ops p.code) ps

unfoldable pub total : List Part → ℕ
total [] = 0
total (p ∷ ps) = ops p.code + total ps

pub lines-length : (ps : List Part) (a : ℕ) → Chain a ps → length (lines_of ps) ≡ total ps
unfolding lines_of total
lines-length [] a c = refl
lines-length (p ∷ ps) a c = lay-length p.code none (λ o. lines_of ps) (total ps) (λ o. lines-length ps (a + ops p.code) c.2)

pub rises : (ps : List Part) (a b : ℕ) → b ≤ a → Chain a ps → RisesFrom b (heads_of ps)
unfolding heads_of
rises [] a b h c = tt
rises (p ∷ ps) a b h c = let z = closed_some p.code c.1 in let q = c.0 in (omega arith, rises ps (a + ops p.code) (suc p.head.first) (omega arith) c.2)

pub begins : (ps : List Part) (a : ℕ) → Chain a ps → (p : Part) (k : ℕ) → get_elem? ps k ≡ some p → p.head.first + ops p.code ≤ a + total ps
unfolding total
begins [] a c p k h = never-some h
begins (q ∷ ps) a c p zero h = let e : q ≡ p = same_some h in subst (λ (z : Part). z.head.first + ops z.code ≤ a + (ops q.code + total ps)) e (let u = c.0 in omega arith)
begins (q ∷ ps) a c p (suc k) h = let z = begins ps (a + ops q.code) c.2 p k h in omega arith

drop_more : (xs whole ys : List Line) (n : ℕ) → drop n whole ≡ xs ++ ys → drop (n + length xs) whole ≡ ys
drop_more [] whole ys n h = let e : n ≡ n + 0 = omega arith in subst (λ z. drop z whole ≡ ys) e h
drop_more (x ∷ xs) whole ys n h =
    let d = dropped whole n x (xs ++ ys) h in
    let e : suc n + length xs ≡ n + suc (length xs) = omega arith in
    subst (λ z. drop z whole ≡ ys) e (drop_more xs whole ys (suc n) d.1)

-- what is known of the part with number k
pub record Located (whole : List Line) (n : ℕ) (bs : List Body) (k : ℕ) (p : Part) : Type 0 where
  pub its-head : get_elem? bs k ≡ some p.head
  pub its-end : end_of bs n k ≡ p.head.first + ops p.code
  pub rest : List Line
  pub its-lines : drop p.head.first whole ≡ alone p.code ++ rest
  pub closed : Closed p.code

pub located : (whole : List Line) (n : ℕ) (ps : List Part) (a k : ℕ) (p : Part) → Chain a ps → n ≡ a + total ps → drop a whole ≡ lines_of ps → get_elem? ps k ≡ some p → Located whole n (heads_of ps) k p
unfolding heads_of lines_of total end_of
located whole n [] a k p c e d h = never-some h
located whole n (q ∷ []) a zero p c e d h =
    let z : q ≡ p = same_some h in
    subst (λ (x : Part). Located whole n (q.head ∷ []) 0 x) z
    (record { its-head = refl; its-end = let u = c.0 in omega arith; rest = []; its-lines = ap (λ i. drop i whole) c.0 ∙ d ∙ closed-app q.code [] c.1; closed = c.1 })
located whole n (q ∷ []) a (suc k) p c e d h = never-some h
located whole n (q ∷ (r ∷ ps)) a zero p c e d h =
    let z : q ≡ p = same_some h in
    subst (λ (x : Part). Located whole n (q.head ∷ (r.head ∷ heads_of ps)) 0 x) z
    (record {
      its-head = refl;
      its-end = let u = c.0 in let v = c.2.0 in omega arith;
      rest = lines_of (r ∷ ps);
      its-lines = ap (λ i. drop i whole) c.0 ∙ d ∙ closed-app q.code (lines_of (r ∷ ps)) c.1;
      closed = c.1;
    })
located whole n (q ∷ (r ∷ ps)) a (suc k) p c e d h =
    let i : drop a whole ≡ alone q.code ++ lines_of (r ∷ ps) = d ∙ closed-app q.code (lines_of (r ∷ ps)) c.1 in
    let j : drop (a + ops q.code) whole ≡ lines_of (r ∷ ps) = subst (λ z. drop (a + z) whole ≡ lines_of (r ∷ ps)) (alone-length q.code)
    (drop_more (alone q.code) whole (lines_of (r ∷ ps)) a i) in
    let l = located whole n (r ∷ ps) (a + ops q.code) k p c.2 (omega arith) j h in
    record { its-head = l.its-head; its-end = l.its-end; rest = l.rest; its-lines = l.its-lines; closed = l.closed }

pub part_of : (ps : List Part) (k : ℕ) (b : Body) → get_elem? (heads_of ps) k ≡ some b → (p : Part) × (get_elem? ps k ≡ some p) × (p.head ≡ b)
unfolding heads_of
part_of [] k b h = never-some h
part_of (p ∷ ps) zero b h = (p, refl, same_some h)
part_of (p ∷ ps) (suc k) b h = part_of ps k b h

-- ── the lines of a body, in the macro ──
shape-at : (ls : List Line) (n : ℕ) (l : Line) → get_elem? ls n ≡ some l → shape_at ls n ≡ l.shape
shape-at [] n l h = never-some h
shape-at (x ∷ ls) zero l h = let e : x ≡ l = same_some h in ap (λ (y : Line). y.shape) e
shape-at (x ∷ ls) (suc n) l h = shape-at ls n l h

-- every op of a piece of code
unfoldable pub Ops : (Instr → Type 0) → Code → Type 0
Ops P nil = Unit {0}
Ops P (op i) = P i
Ops P (mark s) = Unit {0}
Ops P (cell t) = Unit {0}
Ops P (x ▸ y) = Ops P x × Ops P y

abbrev pub Lines : (Instr → Type 0) → List Line → Type 0
Lines P ls = Each (λ (l : Line). P l.instr) ls

pub ops-lines : (P : Instr → Type 0) (x : Code) (o : Option Shape) (f : Option Shape → List Line) → Ops P x → ((p : Option Shape) → Lines P (f p)) → Lines P (lay x o f)
unfolding Ops lay
ops-lines P nil o f h g = g o
ops-lines P (op i) o f h g = (h, g none)
ops-lines P (mark s) o f h g = g (first o s)
ops-lines P (cell t) o f h g = g o
ops-lines P (x ▸ y) o f h g = ops-lines P x o (λ p. lay y p f) h.0 (λ p. ops-lines P y p f h.1 g)

-- there are as many instructions as ops
pub records-length : (ps : List Part) → Chain 0 ps → length (records_of (lines_of ps)) ≡ total ps
unfolding records_of
records-length ps chain = each (lines_of ps) ∙ lines-length ps 0 chain
  where
    each : (ls : List Line) → length (records_of ls) ≡ length ls
    each [] = refl
    each (l ∷ ls) = ap suc (each ls)

module _ (m : Macro) (ps : List Part) (eb : m.bodies ≡ heads_of ps) (ec : m.code ≡ records_of (lines_of ps)) (es : m.shapes ≡ placed 0 (lines_of ps))
    (w : WellFormed m) (heads : (i : ℕ) → body_fault m.bodies 0 i ≡ false) where
  lined : (k e : ℕ) (ls rest : List Line) (i : ℕ) → drop i (lines_of ps) ≡ ls ++ rest → e ≡ i + length ls
      → ((j : ℕ) → i ≤ j → j < e → in_body m k j ≡ true) → in_body m k e ≡ false → Lines Writable ls → Lined m k ls i
  lined k e [] rest i d q b z h = let u : e ≡ i = q ∙ omega arith in subst (λ y. in_body m k y ≡ false) u z
  lined k e (l ∷ ls) rest i d q b z h =
      let v = dropped (lines_of ps) i l (ls ++ rest) d in
      let here = b i (omega arith) (omega arith) in (
        fetched m (lines_of ps) i l ec v.0 h.0,
        ap (λ s. shape_in s i) es ∙ subst (λ y. shape_in (placed 0 (lines_of ps)) y ≡ shape_at (lines_of ps) i) (omega arith) (shown (lines_of ps) 0 i) ∙ shape-at (lines_of ps) i l v.0,
        body_is m w k i here,
        heads i,
        here,
        not_first ls (λ p. b (suc i) (omega arith) (omega arith)),
        lined k e ls rest (suc i) v.1 (omega arith) (λ j p r. b j (omega arith) r) z h.1,
      )
    where
      not_first : (ls : List Line) → (1 ≤ length ls → in_body m k (suc i) ≡ true) → NotFirst m k ls (suc i)
      not_first [] f = tt
      not_first (x ∷ ls) f = no-first m w k i (b i (omega arith) (omega arith)) (f (omega arith))

  module _ (chain : Chain 0 ps) where
    code-length : length m.code ≡ total ps
    code-length = ap length ec ∙ records-length ps chain

    -- of the part with number k
    module _ (k : ℕ) (p : Part) (h : get_elem? ps k ≡ some p) where
      its : Located (lines_of ps) (length m.code) m.bodies k p
      its = subst (λ (bs : List Body). Located (lines_of ps) (length m.code) bs k p) (sym eb) (located (lines_of ps) (length m.code) ps 0 k p chain (code-length ∙ omega arith) refl h)

      pub inside : (j : ℕ) → p.head.first ≤ j → j < p.head.first + ops p.code → in_body m k j ≡ true
      unfolding in_body
      inside j a b = rw (its.its-head, its.its-end) (within p.head (p.head.first + ops p.code) j a b)

      outside : in_body m k (p.head.first + ops p.code) ≡ false
      unfolding in_body
      outside =
          rw (its.its-head, its.its-end, le-ltb (p.head.first + ops p.code) (p.head.first + ops p.code) (omega arith))
          (and-false (leb p.head.first (p.head.first + ops p.code)))

      pub begins-empty : into m p.head.first ≡ at_first
      unfolding into
      begins-empty = go p.head.first (at-first m.bodies k p.head its.its-head)
        where
          go : (i : ℕ) → is_first m.bodies i ≡ true → into m i ≡ at_first
          go zero e = refl
          go (suc i) e = rw e refl

      pub its-lined : Ops Writable p.code → Lined m k (lines_alone m k p.code) p.head.first
      unfolding lines_alone
      its-lined wr = lined k (p.head.first + ops p.code) (alone p.code) its.rest p.head.first its.its-lines (ap (λ z. p.head.first + z) (sym (alone-length p.code)))
          inside outside (ops-lines Writable p.code none (λ o. []) wr (λ o. tt))

-- ── code that stands ──
module _ (W : Setting) (k : ℕ) where
  standing : (x : Code) (p : At) (o : Option Shape) (c : Option Shape → List Line) (P : Type 0) → Lined W.macro k (lay x o c) p.address
      → Marks W.macro k (λ a s. shape_in W.macro.shapes a ≡ some s) x p
      → ((o' : Option Shape) → Lined W.macro k (c o') (after x p).address → P) → Stands W k x p × P
  unfolding lay Marks Stands after fetch
  standing nil p o c P h g z = (tt, z o h)
  standing (op i) p o c P h g z = (rw h.4 h.0, z none h.6)
  standing (mark s) p o c P h g z = (g, z (first o s) h)
  standing (cell t) p o c P h g z = (tt, z o h)
  standing (x ▸ y) p o c P h g z =
      let u = standing x p o (λ o'. lay y o' c) (Stands W k y (after x p) × P) h g.0 (λ o' h'. standing y (after x p) o' c P h' g.1 z) in
      ((u.0, u.1.0), u.1.1)

  pub stands : (x : Code) (p : At) → Lined W.macro k (lines_alone W.macro k x) p.address → Marks W.macro k (λ a s. shape_in W.macro.shapes a ≡ some s) x p → Stands W k x p
  unfolding lines_alone
  stands x p h g = (standing x p none (λ o. []) (Unit {0}) h g (λ o' h'. tt)).0

-- ── no fault in any body: none in the macro ──
pub fault-none : (m : Macro) (k : ℕ) (ls : List Line) (i n : ℕ) → Faultless m k ls i → n < length ls → fault_at m (i + n) ≡ false
fault-none m k [] i n f h = absurd (omega arith)
fault-none m k (l ∷ ls) i zero f h = let e : i ≡ i + 0 = omega arith in subst (λ z. fault_at m z ≡ false) e f.0
fault-none m k (l ∷ ls) i (suc n) f h = let e : suc i + n ≡ i + suc n = omega arith in subst (λ z. fault_at m z ≡ false) e (fault-none m k ls (suc i) n f.1 (omega arith))

module _ (m : Macro) (ps : List Part) (eb : m.bodies ≡ heads_of ps) (ec : m.code ≡ records_of (lines_of ps)) (es : m.shapes ≡ placed 0 (lines_of ps))
    (w : WellFormed m) (heads : (i : ℕ) → body_fault m.bodies 0 i ≡ false) (chain : Chain 0 ps)
    (sound-bodies : (k : ℕ) (p : Part) → get_elem? ps k ≡ some p → Faultless m k (lines_alone m k p.code) p.head.first) where
  pub no-fault : (i : ℕ) → i < length m.code → fault_at m i ≡ false
  unfolding in_body lines_alone
  no-fault i h =
      let k = body_of m.bodies 0 i in
      let b = bounds (body_at m k) (end_of m.bodies (length m.code) k) i (inside-body m w i h) in
      let q = part_of ps k b.0 (subst (λ (bs : List Body). get_elem? bs k ≡ some b.0) eb b.1) in
      let p = q.0 in
      let l = located (lines_of ps) (length m.code) ps 0 k p chain (code-length m ps eb ec es w heads chain ∙ omega arith) refl q.1 in
      let f : p.head.first ≤ i = rw q.2 b.2 in
      let e : i < p.head.first + ops p.code = subst (λ z. i < z) (subst (λ (bs : List Body). end_of bs (length m.code) k ≡ p.head.first + ops p.code) (sym eb) l.its-end) b.3 in
      let d : (n : ℕ) × (i ≡ p.head.first + n) = by-sum p.head.first i f in
      let a = alone-length p.code in
      subst (λ z. fault_at m z ≡ false) (sym d.1) (fault-none m k (alone p.code) p.head.first d.0 (sound-bodies k p q.1) (let z = d.1 in omega arith))
    where
      by-sum : (x y : ℕ) → x ≤ y → (n : ℕ) × (y ≡ x + n)
      by-sum zero y h = (y, omega arith)
      by-sum (suc x) zero h = absurd (omega arith)
      by-sum (suc x) (suc y) h = let q = by-sum x y (omega arith) in (q.0, let z = q.1 in omega arith)
