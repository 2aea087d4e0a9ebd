-- The state that flows through a piece of code, by the loading rules; one law for each way that an op goes on.
use Rattle.std.specs.Prelude.{true, ◌&&◌, ◌≡◌, ℕ, suc, ◌≤◌, length, take}
use Rattle.std.proofs.Math.Path.{refl}
use Rattle.std.proofs.Common.{ap₂, le-leb}
use mathlib.Core.List.{List, [], ◌∷◌, ◌++◌, reverse, reverse_aux, reverse_aux-eq}
use Rattle.std.proofs.Math.Option.{Option, none, some}
use Rattle.std.proofs.Math.ListN.{get_elem?}
use Rattle.values.specs.Types.{Ty, integer, logical, reference, fits}
use Rattle.values.specs.Identical.{same_refl}
use Rattle.values.specs.Operators.{unary, binary, Unary, Binary, op_type}
use Rattle.bytecode.specs.Macro.{Body, Shape, shape, Macro}
use Rattle.bytecode.specs.Instructions.{Owner, Instr, load, store, operate, go, go_unless, set_level, read_fader, take_hold, let_hold, assert, stop, call, make, get_field}
use Rattle.bytecode.specs.Instructions.{put_field, cell_ty, field_ty, procedure_at}
use Rattle.bytecode.specs.Rules.{plain, Flow, on, fork, jump, halt, broken, strip, roomy, flow, effect}
use Rattle.compile_code.specs.Code.{Code, nil, op, mark, cell, ◌▸◌, At, after}

fits-refl : (t : Ty) → fits t t ≡ true
fits-refl t = same_refl t

pub strip-app : (ins r : List Ty) → strip ins (ins ++ r) ≡ some r
unfolding strip
strip-app [] r = refl
strip-app (t ∷ ins) r = rw (fits-refl t) (strip-app ins r)

pub room : (h : ℕ) (ts : List Ty) → h ≤ 16 → length ts ≤ 32 → roomy (shape h ts) ≡ true
room h ts p q = ap₂ (λ a b. a && b) (le-leb h 16 p) (le-leb (length ts) 32 q)

abbrev pub Goes : (ℕ → Shape → Type 0) → Flow → Option Shape → Type 0
Goes Aim (on s) g = g ≡ some s
Goes Aim (fork s t) g = (g ≡ some s) × Aim t s
Goes Aim (jump s t) g = (g ≡ none) × Aim t s
Goes Aim halt g = g ≡ none
Goes Aim broken g = ⊥

abbrev pub Comes : Option Shape → Shape → Type 0
Comes none s = roomy s ≡ true
Comes (some t) s = (t ≡ s) × (roomy s ≡ true)

module _ (m : Macro) (k : ℕ) (Aim : ℕ → Shape → Type 0) where
  -- from f to g, with every rule kept on the way
  unfoldable pub Seg : Code → Option Shape → Option Shape → Type 0
  Seg nil f g = f ≡ g
  Seg (op i) f g = (s : Shape) × (f ≡ some s) × Goes Aim (flow (effect m k i s) s) g
  Seg (mark s) f g = Comes f s × (g ≡ some s)
  Seg (cell t) f g = f ≡ g
  Seg (x ▸ y) f g = (h : Option Shape) × Seg x f h × Seg y h g

  -- every mark can be aimed at
  unfoldable pub Marks : Code → At → Type 0
  Marks nil p = Unit {0}
  Marks (op i) p = Unit {0}
  Marks (mark s) p = Aim p.address s
  Marks (cell t) p = Unit {0}
  Marks (x ▸ y) p = Marks x p × Marks y (after x p)

  -- ── one law for each op ──
  plainly : (i : Instr) (h : ℕ) (ins outs r : List Ty) → effect m k i (shape h (ins ++ r)) ≡ plain ins outs → h ≤ 16 → length (outs ++ r) ≤ 32
      → Seg (op i) (some (shape h (ins ++ r))) (some (shape h (outs ++ r)))
  unfolding Seg flow
  plainly i h ins outs r e p q = (shape h (ins ++ r), refl, rw e (rw (strip-app ins r) (rw (room h (outs ++ r) p q) refl)))

  pub pushes : (i : Instr) (h : ℕ) (t : Ty) (ts : List Ty) → effect m k i (shape h ts) ≡ plain [] (t ∷ []) → h ≤ 16 → suc (length ts) ≤ 32 → Seg (op i) (some (shape h ts)) (some (shape h (t ∷ ts)))
  pushes i h t ts e p q = plainly i h [] (t ∷ []) ts e p q

  pub loads : (o : Owner) (c h : ℕ) (t : Ty) (ts : List Ty) → cell_ty m k o c ≡ some t → h ≤ 16 → suc (length ts) ≤ 32 → Seg (op (load o c)) (some (shape h ts)) (some (shape h (t ∷ ts)))
  unfolding effect
  loads o c h t ts e p q = pushes (load o c) h t ts (rw e refl) p q

  pub stores : (o : Owner) (c h : ℕ) (t : Ty) (ts : List Ty) → cell_ty m k o c ≡ some t → h ≤ 16 → length ts ≤ 32 → Seg (op (store o c)) (some (shape h (t ∷ ts))) (some (shape h ts))
  unfolding effect
  stores o c h t ts e p q = plainly (store o c) h (t ∷ []) [] ts (rw e refl) p q

  pub operates : (o : Binary) (h : ℕ) (t u r : Ty) (ts : List Ty) → op_type (binary o) (t ∷ u ∷ []) ≡ some r → h ≤ 16 → suc (length ts) ≤ 32
      → Seg (op (operate (binary o))) (some (shape h (u ∷ (t ∷ ts)))) (some (shape h (r ∷ ts)))
  unfolding effect
  operates o h t u r ts e p q = plainly (operate (binary o)) h (u ∷ t ∷ []) (r ∷ []) ts (rw e refl) p q

  pub operates1 : (o : Unary) (h : ℕ) (t r : Ty) (ts : List Ty) → op_type (unary o) (t ∷ []) ≡ some r → h ≤ 16 → suc (length ts) ≤ 32
      → Seg (op (operate (unary o))) (some (shape h (t ∷ ts))) (some (shape h (r ∷ ts)))
  unfolding effect
  operates1 o h t r ts e p q = plainly (operate (unary o)) h (t ∷ []) (r ∷ []) ts (rw e refl) p q

  pub asserts : (h : ℕ) (t : Ty) (ts : List Ty) → t ≡ logical → h ≤ 16 → length ts ≤ 32 → Seg (op assert) (some (shape h (t ∷ ts))) (some (shape h ts))
  unfolding effect
  asserts h t ts e p q = rw e (plainly assert h (logical ∷ []) [] ts refl p q)

  pub sets : (h : ℕ) (t u : Ty) (ts : List Ty) → t ≡ integer → u ≡ integer → h ≤ 16 → length ts ≤ 32 → Seg (op set_level) (some (shape h (u ∷ (t ∷ ts)))) (some (shape h ts))
  unfolding effect
  sets h t u ts e f p q = rw (e, f) (plainly set_level h (integer ∷ integer ∷ []) [] ts refl p q)

  pub fades : (h : ℕ) (t : Ty) (ts : List Ty) → t ≡ integer → h ≤ 16 → suc (length ts) ≤ 32 → Seg (op read_fader) (some (shape h (t ∷ ts))) (some (shape h (integer ∷ ts)))
  unfolding effect
  fades h t ts e p q = rw e (plainly read_fader h (integer ∷ []) (integer ∷ []) ts refl p q)

  pub tests : (a h : ℕ) (t : Ty) (ts : List Ty) → t ≡ logical → Aim a (shape h ts) → Seg (op (go_unless a)) (some (shape h (t ∷ ts))) (some (shape h ts))
  unfolding Seg effect flow strip
  tests a h t ts e g = (shape h (t ∷ ts), refl, rw e (refl, g))

  pub goes : (a h : ℕ) (ts : List Ty) → Aim a (shape h ts) → Seg (op (go a)) (some (shape h ts)) none
  unfolding Seg effect flow
  goes a h ts g = (shape h ts, refl, (refl, g))

  pub stopped : (c h : ℕ) (ts : List Ty) → Seg (op (stop c)) (some (shape h ts)) none
  unfolding Seg effect flow
  stopped c h ts = (shape h ts, refl, refl)

  pub holds : (g h : ℕ) (ts : List Ty) → suc h ≤ 16 → length ts ≤ 32 → Seg (op (take_hold g)) (some (shape h ts)) (some (shape (suc h) ts))
  unfolding Seg effect flow
  holds g h ts p q = (shape h ts, refl, rw (room (suc h) ts p q) refl)

  pub frees : (h : ℕ) (ts : List Ty) → Seg (op let_hold) (some (shape (suc h) ts)) (some (shape h ts))
  unfolding Seg effect flow
  frees h ts = (shape (suc h) ts, refl, refl)

  pub marks-on : (h : ℕ) (ts : List Ty) → h ≤ 16 → length ts ≤ 32 → Seg (mark (shape h ts)) (some (shape h ts)) (some (shape h ts))
  unfolding Seg
  marks-on h ts p q = ((refl, room h ts p q), refl)

  pub marks-here : (h : ℕ) (ts : List Ty) → h ≤ 16 → length ts ≤ 32 → Seg (mark (shape h ts)) none (some (shape h ts))
  unfolding Seg
  marks-here h ts p q = (room h ts p q, refl)

  pub joins : (x y : Code) (f h g : Option Shape) → Seg x f h → Seg y h g → Seg (x ▸ y) f g
  unfolding Seg
  joins x y f h g p q = (h, p, q)

  -- ── calls and records ──
  pub calls : (b h : ℕ) (B : Body) (us rs ts : List Ty) → procedure_at m b ≡ some B → take B.parameters B.cells ≡ us → B.results ≡ rs → h ≤ 16 → length (rs ++ ts) ≤ 32
      → Seg (op (call b)) (some (shape h (reverse_aux us ts))) (some (shape h (rs ++ ts)))
  unfolding effect
  calls b h B us rs ts e f g p q = rw (reverse_aux-eq us ts) (plainly (call b) h (reverse us) rs ts (rw e (ap₂ (λ x y. plain (reverse x) y) f g)) p q)

  pub makes : (c h : ℕ) (us ts : List Ty) → get_elem? m.classes c ≡ some us → h ≤ 16 → suc (length ts) ≤ 32
      → Seg (op (make c)) (some (shape h (reverse_aux us ts))) (some (shape h (reference c ∷ ts)))
  unfolding effect
  makes c h us ts e p q = rw (reverse_aux-eq us ts) (plainly (make c) h (reverse us) (reference c ∷ []) ts (rw e refl) p q)

  pub gets : (c x h : ℕ) (t u : Ty) (ts : List Ty) → t ≡ reference c → field_ty m c x ≡ some u → h ≤ 16 → suc (length ts) ≤ 32
      → Seg (op (get_field c x)) (some (shape h (t ∷ ts))) (some (shape h (u ∷ ts)))
  unfolding effect
  gets c x h t u ts d e p q = rw d (plainly (get_field c x) h (reference c ∷ []) (u ∷ []) ts (rw e refl) p q)

  pub puts : (c x h : ℕ) (t u : Ty) (ts : List Ty) → t ≡ reference c → field_ty m c x ≡ some u → h ≤ 16 → length ts ≤ 32 → Seg (op (put_field c x)) (some (shape h (u ∷ (t ∷ ts)))) (some (shape h ts))
  unfolding effect
  puts c x h t u ts d e p q = rw d (plainly (put_field c x) h (u ∷ reference c ∷ []) [] ts (rw e refl) p q)
