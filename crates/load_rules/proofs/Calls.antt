-- Calls and returns: at each exit, what was tested gives what the definition gives.
use mathlib.Core.Path.{◌≡◌, sym, ap, ◌∙◌}
use mathlib.Core.Bool.{true}
use mathlib.Core.List.{List}
use Prim.Native.Nat.{ℕ, ◌+◌, ◌<◌, ◌≤◌}
use lib.ListN.{length}
use lib.Dec.{eqb}
use borrow.Author.Tests.{eq-eqb, ne_eqb, lt-ltb, le-ltb}
use Rattle.words.specs.Numbers.{byte_at}
use Rattle.load_places.specs.Search.{tops}
use Rattle.load_places.specs.Records.{bodies, body_place}
use Rattle.load_places.specs.Rules.{Flow, goes, ends, bad, need, push, pop, chain, takes, handed, op_call, justs, op_return}
use Rattle.load_rules.proofs.TypeStack.{length-tops}
use Rattle.load_rules.proofs.RecordTypes.{takes-kept}

module _ (l : List ℕ) (a b h : ℕ) (s : List ℕ) (z : a ≡ 0) (n : (b ≡ 0 → ⊥)) where
  pub call-over : bodies l ≤ b → bad ≡ op_call l a b h s
  unfolding op_call
  call-over p = rw (eq-eqb a 0 z, ne_eqb b 0 n, le-ltb b (bodies l) p)

  module _ (p : b < bodies l) (q : ℕ) (e : q ≡ body_place l b) (m : ℕ) (d : m ≡ byte_at l (q + 4)) (X : Flow) (x : X ≡ takes l (q + 7) m h s) where
    call-goes : chain X (λ g r. handed (byte_at l (q + 5)) g r) ≡ op_call l a b h s
    unfolding op_call
    call-goes = rw (eq-eqb a 0 z, ne_eqb b 0 n, lt-ltb b (bodies l) p, ← e, ← d, ← x)

    -- with no result, what the arguments leave; and with one
    pub call-plain : byte_at l (q + 5) ≡ 0 → X ≡ op_call l a b h s
    unfolding handed
    call-plain t =
        let k : X ≡ chain X (λ g r. goes g r) = x ∙ sym (takes-kept l (q + 7) m h s) ∙ ap (λ (y : Flow). chain y (λ g r. goes g r)) (sym x) in
        k ∙ sym (rw (eq-eqb (byte_at l (q + 5)) 0 t)) ∙ call-goes

    pub call-pushes : (byte_at l (q + 5) ≡ 0 → ⊥) → chain X (λ g r. push (byte_at l (q + 5)) g r) ≡ op_call l a b h s
    unfolding handed
    call-pushes t = sym (rw (ne_eqb (byte_at l (q + 5)) 0 t)) ∙ call-goes

module _ (st : List ℕ) (d : ℕ) where
  pub empties : d ≡ 0 → ends ≡ need (eqb (length (tops st 0 d)) 0) ends
  empties e = rw (length-tops st 0 d, eq-eqb d 0 e)

  pub crowds : (d ≡ 0 → ⊥) → bad ≡ need (eqb (length (tops st 0 d)) 0) ends
  crowds e = rw (length-tops st 0 d, ne_eqb d 0 e)

module _ (t h : ℕ) (s : List ℕ) where
  pub just-none : t ≡ 0 → need (eqb (length s) 0) ends ≡ justs t h s
  unfolding justs
  just-none z = rw (eq-eqb t 0 z)

  pub just-of : (t ≡ 0 → ⊥) → (F : Flow) → pop t h s ≡ F → chain F (λ g r. need (eqb (length r) 0) ends) ≡ justs t h s
  unfolding justs
  just-of z F e = rw (ne_eqb t 0 z, e)

pub return-goes : (l : List ℕ) (k a b h : ℕ) (s : List ℕ) → eqb a 0 ≡ true → eqb b 0 ≡ true → (k ≡ 0 → ⊥) → h ≡ 0 → (q : ℕ) → q ≡ body_place l k
    → justs (byte_at l (q + 5)) h s ≡ op_return l k a b h s
unfolding op_return
return-goes l k a b h s x y z w q e = rw (x, y, ne_eqb k 0 z, eq-eqb h 0 w, ← e)
