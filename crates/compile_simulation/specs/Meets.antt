-- The plain machine with an oracle's readings; what it does where a part of the tree ends as `r`; laws to put this together.
use Rattle.std.specs.Prelude.{Bool, true, false, ◌≡◌}
use Rattle.std.proofs.Math.Path.{refl}
use mathlib.Core.List.{List, [], ◌∷◌, ◌++◌}
use Rattle.std.proofs.Math.Option.{Option, none, some}
use Prim.Native.Nat.{ℕ, zero, suc, ◌≤◌, suc-le-suc}
use Rattle.std.proofs.Common.{arith}
use Rattle.values.specs.Trace.{Item, event, reading, release}
use Rattle.language.specs.Execute.{Store, Result, done, jump, ended, later, wrong, next, asked, say, release_all}
use Rattle.bytecode.specs.Macro.{Macro}
use Rattle.bytecode.specs.Machine.{Machine, running, unwinding, end_by, Stuck, Stepped, moved, stuck, step, demand, given}
use Rattle.bytecode.specs.Machine.{ended as stopped}
use Rattle.bytecode.specs.Sound.{sound}
use Rattle.compile_code.specs.Compile.{Around}

-- the machine, its trace (the latest first), and the readings taken; or no next step
pub data Conf : Type 0 where
  live : Machine → List Item → ℕ → Conf
  dead : Conf

abbrev pub counted : List Item → ℕ → ℕ
counted [] k = k
counted (event e ∷ is) k = counted is k
counted (reading f v ∷ is) k = suc (counted is k)

abbrev pub stepped : Stepped → List Item → ℕ → Conf
stepped (moved is t) tr k = live t (is ++ tr) (counted is k)
stepped (stuck why) tr k = dead

pub record Setting : Type 0 where
  pub macro : Macro
  pub oracle : ℕ → ℕ → ℕ
  pub shared-names : List Around  -- the root's variables, as procedures know them

module _ (W : Setting) where
  unfoldable pub go : Conf → Conf
  go (live s tr k) = stepped (step W.macro (W.oracle k) s) tr k
  go dead = dead

  unfoldable pub run : ℕ → Conf → Conf
  run zero x = x
  run (suc n) x = run n (go x)

  pub record Reach (x : Conf) (P : Conf → Type 0) : Type 0 where
    pub steps : ℕ
    pub there : P (run steps x)

  abbrev pub Live : Conf → Store → Type 0
  Live (live (running rs f fs) tr k) σ = (tr ≡ σ.trace) × (k ≡ σ.taken)
  Live (live (unwinding gs a) tr k) σ = ⊥
  Live (live (stopped c) tr k) σ = ⊥
  Live dead σ = ⊥

  pub record Long (n : ℕ) (x : Conf) (σ : Store) : Type 0 where
    pub steps : ℕ
    pub many : n ≤ steps
    pub alive : Live (run steps x) σ

  abbrev pub EndsBy : ℕ → Store → Conf → Type 0
  EndsBy c σ y = y ≡ live (stopped c) σ.trace σ.taken

  -- no next step, or a state that is not sound: never in a macro that passes the loading check
  abbrev pub Bad : Conf → Type 0
  Bad (live s tr k) = sound W.macro s ≡ false
  Bad dead = Unit {0}

  abbrev pub Ends : {A : Type 0} → ℕ → (ℕ → Store → Conf → Type 0) → (A → Store → Conf → Type 0) → Conf → Result A → Type 0
  Ends n L F x (done v σ) = Reach x (F v σ)
  Ends n L F x (jump l σ) = Reach (go x) (L l σ)
  Ends n L F x (ended c σ) = Reach x (EndsBy c σ)
  Ends n L F x (later σ) = Long n x σ
  Ends n L F x wrong = Reach x Bad

  -- from x the machine does what r says, or comes to have no next step: with fuel n, L where gotos land, F where it goes on
  pub data Meets {A : Type 0} (n : ℕ) (L : ℕ → Store → Conf → Type 0) (F : A → Store → Conf → Type 0) (x : Conf) (r : Result A) : Type 0 where
    crash : Reach x Bad → Meets n L F x r
    ends : Ends n L F x r → Meets n L F x r

module _ {W : Setting} where
  pub here : {x : Conf} {P : Conf → Type 0} → P x → Reach W x P
  unfolding run
  here p = record { steps = 0; there = p }

  pub prior : {x : Conf} {P : Conf → Type 0} → Reach W (go W x) P → Reach W x P
  unfolding run
  prior h = record { steps = suc h.steps; there = h.there }

  longer : {n : ℕ} {x : Conf} {σ : Store} → Long W n (go W x) σ → Long W (suc n) x σ
  unfolding run
  longer h = record { steps = suc h.steps; many = suc-le-suc h.many; alive = h.alive }

  shorter : {n : ℕ} {x : Conf} {σ : Store} → Long W (suc n) x σ → Long W n x σ
  shorter h = let q = h.many in record { steps = h.steps; many = omega arith; alive = h.alive }

  module _ {A : Type 0} {L : ℕ → Store → Conf → Type 0} {F : A → Store → Conf → Type 0} where
    -- one step back, and the fuel up
    pub tick : {n : ℕ} {x : Conf} (r : Result A) → Meets W n L F (go W x) r → Meets W (suc n) L F x r
    tick r (crash h) = crash (prior h)
    tick (done v σ) (ends h) = ends (prior h)
    tick (jump l σ) (ends h) = ends (prior h)
    tick (ended c σ) (ends h) = ends (prior h)
    tick (later σ) (ends h) = ends (longer h)
    tick wrong (ends h) = ends (prior h)

    pub weaker : {n : ℕ} {x : Conf} (r : Result A) → Meets W (suc n) L F x r → Meets W n L F x r
    weaker r (crash h) = crash h
    weaker (done v σ) (ends h) = ends h
    weaker (jump l σ) (ends h) = ends h
    weaker (ended c σ) (ends h) = ends h
    weaker (later σ) (ends h) = ends (shorter h)
    weaker wrong (ends h) = ends h

    pub back : {n : ℕ} {x : Conf} (r : Result A) → Meets W n L F (go W x) r → Meets W n L F x r
    back r h = weaker r (tick r h)

    backs : {n : ℕ} (k : ℕ) (x : Conf) (r : Result A) → Meets W n L F (run W k x) r → Meets W n L F x r
    unfolding run
    backs zero x r h = h
    backs (suc k) x r h = back r (backs k (go W x) r h)

    pub from : {n : ℕ} {x : Conf} {P : Conf → Type 0} {r : Result A} → Reach W x P → ((y : Conf) → P y → Meets W n L F y r) → Meets W n L F x r
    from {x = x} {r = r} h f = backs h.steps x r (f (run W h.steps x) h.there)

    pub lost : {n : ℕ} {r : Result A} → Meets W n L F dead r
    lost = crash (here tt)

    -- tests that only the machine makes
    pub demanded : {n : ℕ} {r : Result A} (tr : List Item) (k : ℕ) (b : Bool) (why : Stuck) (s : Stepped) → Meets W n L F (stepped s tr k) r → Meets W n L F (stepped (demand b why s) tr k) r
    demanded tr k true why s h = h
    demanded tr k false why s h = lost

    pub had : {B : Type 0} {n : ℕ} {r : Result A} (tr : List Item) (k : ℕ) (o : Option B) (why : Stuck) (f : B → Stepped)
        → ((x : B) → o ≡ some x → Meets W n L F (stepped (f x) tr k) r) → Meets W n L F (stepped (given o why f) tr k) r
    had tr k none why f h = lost
    had tr k (some x) why f h = h x refl

    -- tests that both make, of the same thing
    pub asks : {B : Type 0} {n : ℕ} (tr : List Item) (k : ℕ) (o : Option B) (why : Stuck) (f : B → Stepped) (g : B → Result A)
        → ((x : B) → o ≡ some x → Meets W n L F (stepped (f x) tr k) (g x)) → Meets W n L F (stepped (given o why f) tr k) (asked o g)
    asks tr k none why f g h = lost
    asks tr k (some x) why f g h = h x refl

  -- a condition: every hold is released, last first, and the machine ends
  closes : (c : ℕ) (gs : List ℕ) (σ : Store) → Reach W (live (unwinding gs (end_by c)) σ.trace σ.taken) (EndsBy W c (release_all gs σ))
  unfolding run go step release_all
  closes c [] σ = record { steps = 1; there = refl }
  closes c (g ∷ gs) σ = prior (closes c gs (say (release g) σ))

  module _ {A : Type 0} {n : ℕ} {L : ℕ → Store → Conf → Type 0} {F : A → Store → Conf → Type 0} where
    pub fails : (c : ℕ) (gs : List ℕ) (σ : Store) → Meets W n L F (live (unwinding gs (end_by c)) σ.trace σ.taken) (ended c (release_all gs σ))
    fails c gs σ = ends (closes c gs σ)

  module _ {A B : Type 0} {n : ℕ} {L L' : ℕ → Store → Conf → Type 0} {F : A → Store → Conf → Type 0} {F' : B → Store → Conf → Type 0} where
    -- what comes first, then the rest
    pub binds : {x : Conf} (r : Result A) {k : A → Store → Result B} → ((l : ℕ) (σ : Store) → Reach W (go W x) (L l σ) → Reach W (go W x) (L' l σ))
        → Meets W n L F x r → ((v : A) (σ : Store) (y : Conf) → F v σ y → Meets W n L' F' y (k v σ)) → Meets W n L' F' x (next r k)
    unfolding next
    binds r j (crash h) f = crash h
    binds (done v σ) j (ends h) f = from h (f v σ)
    binds (jump l σ) j (ends h) f = ends (j l σ h)
    binds (ended c σ) j (ends h) f = ends h
    binds (later σ) j (ends h) f = ends h
    binds wrong j (ends h) f = ends h

  module _ {A : Type 0} {n : ℕ} {L L' : ℕ → Store → Conf → Type 0} {F F' : A → Store → Conf → Type 0} where
    -- the same end, further on
    pub onward : {x : Conf} (r : Result A) → ((l : ℕ) (σ : Store) → Reach W (go W x) (L l σ) → Reach W (go W x) (L' l σ))
        → Meets W n L F x r → ((v : A) (σ : Store) (y : Conf) → F v σ y → Meets W n L' F' y (done v σ)) → Meets W n L' F' x r
    onward r j (crash h) f = crash h
    onward (done v σ) j (ends h) f = from h (f v σ)
    onward (jump l σ) j (ends h) f = ends (j l σ h)
    onward (ended c σ) j (ends h) f = ends h
    onward (later σ) j (ends h) f = ends h
    onward wrong j (ends h) f = ends h
