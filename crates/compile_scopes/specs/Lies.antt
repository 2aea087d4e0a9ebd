-- Numbers that stand at a place of a list, part by part.
use Rattle.std.specs.Prelude.{◌≡◌, List, [], ◌∷◌, ◌++◌, ℕ, suc, ◌+◌, length, get_or, drop}
use Rattle.std.proofs.Common.{sym, ◌∙◌, append_assoc, add-zero, add-one, drop_at, drop-drop, get_or-drop}
use Rattle.compile_nodes.specs.Knows.{Lies}

module _ {l : List ℕ} {p : ℕ} where
  pub lies-left : (us vs : List ℕ) → Lies l p (us ++ vs) → Lies l p us
  lies-left us vs h = record { rest = vs ++ h.rest; split = h.split ∙ append_assoc us vs h.rest }

  pub lies-right : (us vs : List ℕ) → Lies l p (us ++ vs) → Lies l (p + length us) vs
  lies-right us vs h =
      record { rest = h.rest; split = sym (drop-drop (length us) p l) ∙ rw (h.split, append_assoc us vs h.rest, drop_at us (vs ++ h.rest)) }

  pub lies-tail : (u : ℕ) (us : List ℕ) → Lies l p (u ∷ us) → Lies l (suc p) us
  lies-tail u us h = rw (add-one p) at (lies-right (u ∷ []) us h)

  pub lies-next : (u : ℕ) (us : List ℕ) → Lies l p (u ∷ us) → Lies l (p + 1) us
  lies-next u us h = lies-right (u ∷ []) us h

  pub lies-here : (u : ℕ) (us : List ℕ) → Lies l p (u ∷ us) → get_or l p 0 ≡ u
  lies-here u us h =
      let e : get_or (drop p l) 0 0 ≡ get_or l p 0 = get_or-drop p l 0 0 ∙ rw (add-zero p) in
      sym e ∙ rw h.split

pub lies_same : {l : List ℕ} {p : ℕ} {us vs : List ℕ} → us ≡ vs → Lies l p us → Lies l p vs
lies_same e h = rw e at h

pub lies_at : {l : List ℕ} {p q : ℕ} {us : List ℕ} → p ≡ q → Lies l p us → Lies l q us
lies_at e h = rw e at h
