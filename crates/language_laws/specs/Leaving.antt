-- Every part of an execution leaves the open holds as it found them, or, by a condition, none: by induction over executions.
use Rattle.std.specs.Prelude.{◌≡◌, refl, List, [], ◌∷◌, ◌++◌, ℕ, zero, suc}
use Rattle.std.proofs.Common.{ap, sym, ◌∙◌, append_assoc}
use Rattle.std.proofs.Math.Option.{Option, none, some}
use Rattle.values.specs.Trace.{hold, release, Item, event}
use Rattle.language.specs.Tree.{Items}
use Rattle.language.specs.Execute.{Slot, Store, say, Result, done, jump, ended, later, wrong, next, Place, under, release_all, let_go, leaving}
use Rattle.language.specs.Execute.{from, Less, caught, catch, World, fueled}
use Rattle.language_laws.specs.Holds.{LastFirst, nothing, quiet, takes, lets, onward}
use Rattle.language_laws.specs.Induction.{Claim, Lawful, Below, more}

-- from a store to a later one, with gs open in the first and hs in the second
pub record Passage (gs hs : List ℕ) (σ τ : Store) : Type 0 where
  pub since : List Item  -- the latest first
  pub trace-is : since ++ σ.trace ≡ τ.trace
  pub last-first : LastFirst gs since hs

-- how a part ends that begins with the holds gs open; out of fuel, some are open
abbrev pub Leave : {A : Type 0} → List ℕ → Store → Result A → Type 0
Leave gs σ (done v τ) = Passage gs gs σ τ
Leave gs σ (jump a τ) = Passage gs gs σ τ
Leave gs σ (ended c τ) = Passage gs [] σ τ
Leave gs σ (later τ) = (hs : List ℕ) × Passage gs hs σ τ
Leave gs σ wrong = Unit {0}

pub record Leaves {A : Type 0} (X : Place) (σ : Store) (r : Result A) : Type 0 where
  pub leave : Leave X.holds σ r

-- ── passages ──
pub stay : {gs : List ℕ} {σ τ : Store} → σ.trace ≡ τ.trace → Passage gs gs σ τ
stay e = record { since = []; trace-is = e; last-first = nothing }

joined : {gs hs ks : List ℕ} {σ τ ρ : Store} → Passage gs hs σ τ → Passage hs ks τ ρ → Passage gs ks σ ρ
joined {σ = σ} p q = record {
  since = q.since ++ p.since;
  trace-is = append_assoc q.since p.since σ.trace ∙ ap (λ l. q.since ++ l) p.trace-is ∙ q.trace-is;
  last-first = onward p.last-first q.last-first;
}

one : {gs hs : List ℕ} {σ τ : Store} (i : Item) → i ∷ σ.trace ≡ τ.trace → LastFirst gs (i ∷ []) hs → Passage gs hs σ τ
one i e h = record { since = i ∷ []; trace-is = e; last-first = h }

taken : (g : ℕ) (gs : List ℕ) (σ : Store) → Passage gs (g ∷ gs) σ (say (hold g) σ)
taken g gs σ = one (event (hold g)) refl (takes g nothing)

let-go : (g : ℕ) (gs : List ℕ) (σ : Store) → Passage (g ∷ gs) gs σ (say (release g) σ)
let-go g gs σ = one (event (release g)) refl (lets g nothing)

released : (gs : List ℕ) (σ : Store) → Passage gs [] σ (release_all gs σ)
unfolding release_all
released [] σ = stay refl
released (g ∷ gs) σ = joined (let-go g gs σ) (released gs (say (release g) σ))

-- ── a law for each way to put results together ──
pub behind : {A : Type 0} {X : Place} {σ τ : Store} (r : Result A) → Passage X.holds X.holds σ τ → Leaves X τ r → Leaves X σ r
behind (done v ρ) p h = record { leave = joined p h.leave }
behind (jump a ρ) p h = record { leave = joined p h.leave }
behind (ended c ρ) p h = record { leave = joined p h.leave }
behind (later ρ) p h = record { leave = (h.leave.0, joined p h.leave.1) }
behind wrong p h = record { leave = tt }

pub binds : {A B : Type 0} {X : Place} {σ : Store} (r : Result A) {f : A → Store → Result B} → Leaves X σ r → ((v : A) (τ : Store) → Leaves X τ (f v τ)) → Leaves X σ (next r f)
unfolding next
binds (done v τ) {f} h k = behind (f v τ) h.leave (k v τ)
binds (jump a τ) h k = record { leave = h.leave }
binds (ended c τ) h k = record { leave = h.leave }
binds (later τ) h k = record { leave = h.leave }
binds wrong h k = record { leave = tt }

pub holds : {A : Type 0} {X : Place} {σ : Store} {g : ℕ} (r : Result A) → Leaves (under g X) (say (hold g) σ) r → Leaves X σ (let_go g r)
unfolding let_go
holds {X = X} {σ = σ} {g = g} (done v τ) h = record { leave = joined (taken g X.holds σ) (joined h.leave (let-go g X.holds τ)) }
holds {X = X} {σ = σ} {g = g} (jump a τ) h = record { leave = joined (taken g X.holds σ) (joined h.leave (let-go g X.holds τ)) }
holds {X = X} {σ = σ} {g = g} (ended c τ) h = record { leave = joined (taken g X.holds σ) h.leave }
holds {X = X} {σ = σ} {g = g} (later τ) h = record { leave = (h.leave.0, joined (taken g X.holds σ) h.leave.1) }
holds wrong h = record { leave = tt }

pub leaves : {A : Type 0} {X : Place} {σ : Store} (f : Store → List (List Slot)) (r : Result A) → Leaves X σ r → Leaves X σ (leaving f r)
unfolding leaving
leaves f (done v τ) h = record { leave = joined h.leave (stay refl) }
leaves f (jump a τ) h = record { leave = joined h.leave (stay refl) }
leaves f (ended c τ) h = record { leave = h.leave }
leaves f (later τ) h = record { leave = h.leave }
leaves f wrong h = record { leave = tt }

pub resumes : {X : Place} {σ : Store} (s : Less) (is : Items) (o : Option Items) (a : ℕ) → ((js : Items) → Leaves X σ (s.resume is js X σ)) → Leaves X σ (caught s is o a X σ)
resumes s is none a k = record { leave = stay refl }
resumes s is (some js) a k = k js

pub catches : {X : Place} {σ : Store} (s : Less) (is : Items) (r : Result (Unit {0})) → Leaves X σ r
    → ((js : Items) (τ : Store) → Leaves X τ (s.resume is js X τ)) → Leaves X σ (catch s is X r)
unfolding catch
catches s is (done u τ) h k = record { leave = h.leave }
catches {X = X} s is (jump a τ) h k = behind (caught s is (from a is) a X τ) h.leave (resumes s is (from a is) a (λ js. k js τ))
catches s is (ended c τ) h k = record { leave = h.leave }
catches s is (later τ) h k = record { leave = h.leave }
catches s is wrong h k = record { leave = tt }

abbrev pub Leaving : Claim
Leaving A X σ p q = Leaves X σ q

pub lawful : Lawful Leaving
lawful = record {
  same = λ e h. behind _ (stay (sym e)) h;
  called = λ h. record { leave = h.leave };
  gives = record { leave = stay refl };
  adds = λ i q e. record { leave = one i e (quiet i q nothing) };
  jumps = record { leave = stay refl };
  stops = λ {A} {X} {σ} {c}. record { leave = released X.holds σ };
  fails = record { leave = tt };
  binds = λ h k. binds _ h k;
  holds = λ h. holds _ h;
  leaves = λ f h. leaves f _ h;
  catches = λ r s is h k. catches s is _ h k;
}

-- no fuel: nothing has happened
late : {A : Type 0} (X : Place) (σ : Store) → Leaves {A = A} X σ (later σ)
late X σ = record { leave = (X.holds, stay refl) }

-- with any fuel
pub below : (W : World) (n : ℕ) → Below Leaving (fueled W n) (fueled W n)
unfolding fueled
below W zero = record { again = λ e b X σ. late X σ; further = λ l v X σ. late X σ; resume = λ is js X σ. late X σ; call_s = λ b X σ. late X σ; call_e = λ b X σ. late X σ }
below W (suc n) = more Leaving lawful W n n (below W n)
