-- More fuel changes no end: an execution that has ended stays as it is, and the trace so far is a prefix of every later one. The statements stand last.
use Rattle.std.specs.Prelude.{◌≡◌, refl, List, [], ◌∷◌, ◌++◌, reverse, ℕ, zero, suc, ◌≤◌}
use Rattle.std.proofs.Common.{ap, sym, ◌∙◌, subst, append_assoc, append-nil, le_of_suc-le-suc, not-suc-le-zero, arith}
use Rattle.std.proofs.lemmas.List.{reverse-append}
use Rattle.std.proofs.Math.Option.{Option, none, some}
use Rattle.std.proofs.Math.Decide.{dec_le}
use Rattle.values.specs.Trace.{release, Item, event}
use Rattle.language.specs.Tree.{Items, Tree, locals}
use Rattle.language.specs.Execute.{Slot, Store, Result, done, jump, ended, later, wrong, next, Place, let_go, leaving, from, Less, caught, catch}
use Rattle.language.specs.Execute.{World, fueled, Ran, finished, going, ill_formed, ran, execute, outermost, at_start}
use Rattle.language_laws.specs.Endings.{EndsBy, GoesOn, Continues, Further}
use Rattle.language_laws.specs.Induction.{Claim, Lawful, Below, more, root}
use Rattle.language_laws.specs.Leaving.{Passage, Leaves, stay, behind, binds, holds, leaves, resumes, catches, below, lawful as leaving-lawful}

-- a store whose trace goes on from another's, and a result with such a store
record Extends (σ τ : Store) : Type 0 where
  since : List Item
  trace-is : since ++ σ.trace ≡ τ.trace

abbrev Onward : {A : Type 0} → Store → Result A → Type 0
Onward σ (done v τ) = Extends σ τ
Onward σ (jump a τ) = Extends σ τ
Onward σ (ended c τ) = Extends σ τ
Onward σ (later τ) = Extends σ τ
Onward σ wrong = Unit {0}

-- a result with less fuel, and the one with more
data Follows {A : Type 0} : Result A → Result A → Type 0 where
  alike : {p : Result A} → Follows p p
  longer : {q : Result A} (σ : Store) → Onward σ q → Follows (later σ) q

-- a part with less fuel and with more; that its trace goes on from where it begins is known already
record Fueled {A : Type 0} (X : Place) (σ : Store) (p q : Result A) : Type 0 where
  follows : Follows p q
  leaves : Leaves X σ q

-- ── a law for each way to put results together ──
passed : {gs hs : List ℕ} {σ τ ρ : Store} → Extends σ τ → Passage gs hs τ ρ → Extends σ ρ
passed {σ = σ} s p = record {
  since = p.since ++ s.since;
  trace-is = append_assoc p.since s.since σ.trace ∙ ap (λ l. p.since ++ l) s.trace-is ∙ p.trace-is;
}

-- a part is executed after a store that extends another's trace
on-from : {A : Type 0} {X : Place} {σ τ : Store} (r : Result A) → Extends σ τ → Leaves X τ r → Onward σ r
on-from (done v ρ) s h = passed s h.leave
on-from (jump a ρ) s h = passed s h.leave
on-from (ended c ρ) s h = passed s h.leave
on-from (later ρ) s h = passed s h.leave.1
on-from wrong s h = tt

next-on : {A B : Type 0} {X : Place} (σ : Store) (q : Result A) {h : A → Store → Result B} → Onward σ q → ((v : A) (τ : Store) → Leaves X τ (h v τ)) → Onward σ (next q h)
unfolding next
next-on σ (done v τ) {h} s k = on-from (h v τ) s (k v τ)
next-on σ (jump a τ) s k = s
next-on σ (ended c τ) s k = s
next-on σ (later τ) s k = s
next-on σ wrong s k = tt

next-alike : {A B : Type 0} {X : Place} (p : Result A) {f h : A → Store → Result B} → ((v : A) (τ : Store) → Fueled X τ (f v τ) (h v τ)) → Follows (next p f) (next p h)
unfolding next
next-alike (done v τ) k = (k v τ).follows
next-alike (jump a τ) k = alike
next-alike (ended c τ) k = alike
next-alike (later τ) k = alike
next-alike wrong k = alike

next-follows : {A B : Type 0} {X : Place} {p q : Result A} {f h : A → Store → Result B} → Follows p q
    → ((v : A) (τ : Store) → Fueled X τ (f v τ) (h v τ)) → Follows (next p f) (next q h)
unfolding next
next-follows {p = p} alike k = next-alike p k
next-follows {q = q} (longer σ s) k = longer σ (next-on σ q s (λ v τ. (k v τ).leaves))

let-on : {A : Type 0} (σ : Store) (g : ℕ) (q : Result A) → Onward σ q → Onward σ (let_go g q)
unfolding let_go
let-on σ g (done v τ) s = record { since = event (release g) ∷ s.since; trace-is = ap (λ l. event (release g) ∷ l) s.trace-is }
let-on σ g (jump a τ) s = record { since = event (release g) ∷ s.since; trace-is = ap (λ l. event (release g) ∷ l) s.trace-is }
let-on σ g (ended c τ) s = s
let-on σ g (later τ) s = s
let-on σ g wrong s = tt

let-follows : {A : Type 0} {p q : Result A} (g : ℕ) → Follows p q → Follows (let_go g p) (let_go g q)
unfolding let_go
let-follows g alike = alike
let-follows {q = q} g (longer σ s) = longer σ (let-on σ g q s)

leaving-on : {A : Type 0} (σ : Store) (f : Store → List (List Slot)) (q : Result A) → Onward σ q → Onward σ (leaving f q)
unfolding leaving
leaving-on σ f (done v τ) s = record { since = s.since; trace-is = s.trace-is }
leaving-on σ f (jump a τ) s = record { since = s.since; trace-is = s.trace-is }
leaving-on σ f (ended c τ) s = s
leaving-on σ f (later τ) s = s
leaving-on σ f wrong s = tt

leaving-follows : {A : Type 0} {p q : Result A} (f : Store → List (List Slot)) → Follows p q → Follows (leaving f p) (leaving f q)
unfolding leaving
leaving-follows f alike = alike
leaving-follows {q = q} f (longer σ s) = longer σ (leaving-on σ f q s)

module _ (X : Place) (r s : Less) (is : Items) (k : (js : Items) (τ : Store) → Fueled X τ (r.resume is js X τ) (s.resume is js X τ)) where
  caught-follows : (o : Option Items) (a : ℕ) (τ : Store) → Follows (caught r is o a X τ) (caught s is o a X τ)
  caught-follows none a τ = alike
  caught-follows (some js) a τ = (k js τ).follows

  catch-alike : (p : Result (Unit {0})) → Follows (catch r is X p) (catch s is X p)
  unfolding catch
  catch-alike (done u τ) = alike
  catch-alike (jump a τ) = caught-follows (from a is) a τ
  catch-alike (ended c τ) = alike
  catch-alike (later τ) = alike
  catch-alike wrong = alike

  catch-on : (σ : Store) (q : Result (Unit {0})) → Onward σ q → Onward σ (catch s is X q)
  unfolding catch
  catch-on σ (done u τ) h = h
  catch-on σ (jump a τ) h = on-from (caught s is (from a is) a X τ) h (resumes s is (from a is) a (λ js. (k js τ).leaves))
  catch-on σ (ended c τ) h = h
  catch-on σ (later τ) h = h
  catch-on σ wrong h = tt

  catch-follows : {p q : Result (Unit {0})} → Follows p q → Follows (catch r is X p) (catch s is X q)
  unfolding catch
  catch-follows {p = p} alike = catch-alike p
  catch-follows {q = q} (longer σ h) = longer σ (catch-on σ q h)

abbrev MoreFuel : Claim
MoreFuel A X σ p q = Fueled X σ p q

lawful : Lawful MoreFuel
lawful = record {
  same = λ e h. record { follows = h.follows; leaves = behind _ (stay (sym e)) h.leaves };
  called = λ h. record { follows = h.follows; leaves = record { leave = h.leaves.leave } };
  gives = record { follows = alike; leaves = leaving-lawful.gives };
  adds = λ i q e. record { follows = alike; leaves = leaving-lawful.adds i q e };
  jumps = record { follows = alike; leaves = leaving-lawful.jumps };
  stops = record { follows = alike; leaves = leaving-lawful.stops };
  fails = record { follows = alike; leaves = leaving-lawful.fails };
  binds = λ h k. record { follows = next-follows h.follows k; leaves = binds _ h.leaves (λ v τ. (k v τ).leaves) };
  holds = λ h. record { follows = let-follows _ h.follows; leaves = holds _ h.leaves };
  leaves = λ f h. record { follows = leaving-follows f h.follows; leaves = leaves f _ h.leaves };
  catches = λ r s is h k. record { follows = catch-follows _ r s is k h.follows; leaves = catches s is _ h.leaves (λ js τ. (k js τ).leaves) };
}

-- no fuel: everything is followed
none_left : {A : Type 0} {X : Place} {σ : Store} {q : Result A} → Leaves X σ q → Fueled X σ (later σ) q
none_left {σ = σ} {q = q} h = record { follows = longer σ (on-from q (record { since = []; trace-is = refl }) h); leaves = h }

fuels : (W : World) (n m : ℕ) → n ≤ m → Below MoreFuel (fueled W n) (fueled W m)
unfolding fueled
fuels W zero m h = let b = below W m in record {
  again = λ e s X σ. none_left (b.again e s X σ);
  further = λ l v X σ. none_left (b.further l v X σ);
  resume = λ is js X σ. none_left (b.resume is js X σ);
  call_s = λ d X σ. none_left (b.call_s d X σ);
  call_e = λ d X σ. none_left (b.call_e d X σ);
}
fuels W (suc n) zero h = absurd (not-suc-le-zero h)
fuels W (suc n) (suc m) h = more MoreFuel lawful W n m (fuels W n m (le_of_suc-le-suc h))

-- ── whole executions ──
continues : (σ : Store) (q : Result (Unit {0})) → Onward σ q → Continues (reverse σ.trace) (ran q)
unfolding ran
continues σ (done u τ) s = (reverse s.since, ap reverse (sym s.trace-is) ∙ reverse-append s.since σ.trace)
continues σ (jump a τ) s = tt
continues σ (ended c τ) s = (reverse s.since, ap reverse (sym s.trace-is) ∙ reverse-append s.since σ.trace)
continues σ (later τ) s = (reverse s.since, ap reverse (sym s.trace-is) ∙ reverse-append s.since σ.trace)
continues σ wrong s = tt

itself : (p : Ran) → Further p p
itself (finished is c) = refl
itself (going is) = ([], sym (append-nil is))
itself ill_formed = refl

ran-further : {p q : Result (Unit {0})} → Follows p q → Further (ran p) (ran q)
unfolding ran
ran-further {p = p} alike = itself (ran p)
ran-further {q = q} (longer σ s) = continues σ q s

-- ── the statements ──
module _ (oracle : ℕ → ℕ → ℕ) (t : Tree) where
  pub more-fuel : (n m : ℕ) → n ≤ m → Further (execute oracle t n) (execute oracle t m)
  unfolding execute
  more-fuel n m h =
      let W : World = record { oracle = oracle; globals = t.head } in
      ran-further (root MoreFuel lawful W (fueled W n) (fueled W m) (fuels W n m h) (locals t.head) t.items outermost at_start).follows

  -- what is finished stays finished
  pub stays-finished : {n m c : ℕ} {is : List Item} → execute oracle t n ≡ finished is c → n ≤ m → execute oracle t m ≡ finished is c
  stays-finished {n} {m} e h = subst (λ z. Further z (execute oracle t m)) e (more-fuel n m h)

  -- what is ill-formed stays so; that no program is, is proved with the compiler
  pub stays-ill-formed : {n m : ℕ} → execute oracle t n ≡ ill_formed → n ≤ m → execute oracle t m ≡ ill_formed
  stays-ill-formed {n} {m} e h = subst (λ z. Further z (execute oracle t m)) e (more-fuel n m h)

  -- a trace so far is a prefix of every later one
  pub prefix-so-far : {n m : ℕ} {is : List Item} → execute oracle t n ≡ going is → n ≤ m → Continues is (execute oracle t m)
  prefix-so-far {n} {m} e h = subst (λ z. Further z (execute oracle t m)) e (more-fuel n m h)

  -- there is at most one end
  pub ends-one-way : {is js : List Item} {c d : ℕ} → EndsBy oracle t is c → EndsBy oracle t js d → (is ≡ js) × (c ≡ d)
  ends-one-way {is} {js} {c} {d} x y = pick (dec_le x.0 y.0)
    where
      pick : Dec (x.0 ≤ y.0) → (is ≡ js) × (c ≡ d)
      pick (yes h) = let e : finished is c ≡ finished js d = sym (stays-finished x.1 h) ∙ y.1 in (cc e, cc e)
      pick (no h) = let e : finished is c ≡ finished js d = sym x.1 ∙ stays-finished y.1 (omega arith) in (cc e, cc e)

  -- what ends does not go on for ever
  pub not-both : {is : List Item} {c : ℕ} → EndsBy oracle t is c → GoesOn oracle t → ⊥
  not-both x y = let e : finished _ _ ≡ going _ = sym x.1 ∙ (y x.0).1 in let z : ◌≡◌ {A = ℕ} 0 1 = cc e in omega arith

  -- and what never ends, and is never ill-formed, does
  pub goes-on : ((is : List Item) (c : ℕ) → EndsBy oracle t is c → ⊥) → ((n : ℕ) → execute oracle t n ≡ ill_formed → ⊥) → GoesOn oracle t
  goes-on unending well-formed n = pick (execute oracle t n) refl
    where
      pick : (s : Ran) → execute oracle t n ≡ s → (is : List Item) × (execute oracle t n ≡ going is)
      pick (finished is c) e = absurd (unending is c (n, e))
      pick (going is) e = (is, e)
      pick ill_formed e = absurd (well-formed n e)
