-- Labels that were all pushed: none has a name that its block had before, so that none needs to be looked up again.
use Rattle.std.specs.Prelude.{◌≡◌, refl, Bool, true, false, ◌&&◌, List, [], ◌∷◌, ℕ, zero, suc, ◌+◌, ◌-◌, ◌*◌, ◌<◌, eqb, ltb, length, drop}
use Rattle.std.proofs.Common.{ap, sym, ◌∙◌, arith, eq-eqb, ne_eqb, le-ltb, ltb-true}
use Rattle.logic.specs.Choice.{If◌then◌else◌}
use Rattle.logic.specs.Tests.{clash, both_left, both_right}
use Rattle.words.specs.Laws.{Bytes, two, number-below}
use Rattle.language_laws.specs.Claims.{entries_of}
use Rattle.table_scopes.specs.Environment.{Item, item, Def, find, here, add_all, env_of, shut}
use Rattle.table_scopes.specs.EnvironmentLaws.{passing-none}
use Rattle.table_entries.specs.Spans.{span}
use Rattle.table_scopes.specs.Items.{kind_at, a_at, b_at, after, one_at}
use Rattle.table_scopes.specs.Flaws.{once_flaw}

-- of so many items from a place on, each label is what is found of its name
unfoldable pub Free : List ℕ → List Item → ℕ → ℕ → Type 0
Free l v p zero = Unit {0}
Free l v p (suc n) = (kind_at l p ≡ 20 → once_flaw v (a_at l p) p ≡ []) × Free l v (after l p) n

-- what an answer says of them
pub record Spared (b : Bool) (l : List ℕ) (v : List Item) (p n : ℕ) : Type 0 where
  pub free : b ≡ true → Bytes l → Free l v p n

-- what is found of the innermost block's names is found after more were pushed
abbrev Extends : List Item → List Item → Type 0
Extends v w = (a : ℕ) → here a v ≡ true → (find a w ≡ find a v) × (here a w ≡ true)

extends-push : (m s n q : ℕ) (v : List Item) → m < 65536 → here m v ≡ false → Extends v (item m s n q ∷ v)
unfolding find here
extends-push m s n q v h e a t =
    let other : ¬ (m ≡ a) = λ z. clash (let y : true ≡ false = sym t ∙ ap (λ (x : ℕ). here x v) (sym z) ∙ e in cc) in (
      rw (ne_eqb m a other, ne_eqb m shut (λ z. omega arith)) (sym (passing-none (find a v))),
      rw (le-ltb 65535 m (omega arith), ne_eqb m a other) t,
    )

-- one that was pushed
pushed-here : (a s n q : ℕ) (v : List Item) → a < 65536 → here a (item a s n q ∷ v) ≡ true
unfolding here
pushed-here a s n q v h = rw (le-ltb 65535 a (omega arith), eq-eqb a a refl)

pushed-found : (a s n q : ℕ) (v : List Item) → find a (item a s n q ∷ v) ≡ Def s n q false
unfolding find
pushed-found a s n q v = rw (eq-eqb a a refl)

pushed_free : (a s n q : ℕ) (v w : List Item) → a < 65536 → Extends (item a s n q ∷ v) w → once_flaw w a q ≡ []
pushed_free a s n q v w h x = rw ((x a (pushed-here a s n q v h)).0 ∙ pushed-found a s n q v, eq-eqb q q refl)

-- ── pushing in a loop: what is left decides, whatever is pushed after it ──
pub record Sparing (l : List ℕ) (at count : ℕ) (once : Bool) (v : List Item) (place left : ℕ) : Type 0 where
  pub goes : once ≡ true → Bytes l → (w : List Item) → Extends v w → Free l w place left → Free l w at count

pub sparing-start : (l : List ℕ) (at count : ℕ) (once : Bool) (v : List Item) → Sparing l at count once v at count
sparing-start l at count once v = record { goes = λ e b w x f. f }

pub sparing-end : {l : List ℕ} {at count : ℕ} {once : Bool} {v : List Item} {place left : ℕ} → Sparing l at count once v place left → left ≡ 0 → Spared once l v at count
unfolding Free
sparing-end {l} {v = v} {place} s z = record { free = λ e b. s.goes e b v (λ a h. (refl, h)) (rw z tt) }

-- the number of items in sight
pub env-length : (l : List ℕ) (n : ℕ) → length (env_of l n) ≡ n
unfolding env_of
env-length l zero = refl
env-length l (suc n) = ap suc (env-length l n)

-- whether one was pushed, told by how many there are
one-pushed : (i : Item) (v w : List Item) (b : Bool) → w ≡ (If b then v else i ∷ v) → length v < length w → (b ≡ false) × (w ≡ i ∷ v)
one-pushed i v w true e h = absurd (omega (arith, ap length e))
one-pushed i v w false e h = (refl, e)

pub sparing-next : {l : List ℕ} {at count : ℕ} {once : Bool} {v : List Item} {place left : ℕ} → Sparing l at count once v place left → 0 < left → (w : List Item) (x : Bool) (size : ℕ)
    → size ≡ span 1 (drop place (entries_of l)) → x ≡ (If eqb (kind_at l place) 20 then once && ltb (length v) (length w) else once) → w ≡ add_all (one_at 20 5 l place) v
    → Sparing l at count x w (place + size) (left - 1)
unfolding one_at add_all Free
sparing-next {l} {at} {count} {once} {v} {place} {left} s pos w x size z e g = go (eqb (kind_at l place) 20) refl
  where
    here-and-later : (u : List Item) → (kind_at l place ≡ 20 → once_flaw u (a_at l place) place ≡ []) → Free l u (place + size) (left - 1) → Free l u place left
    here-and-later u f r = let n : left ≡ suc (left - 1) = omega arith in rw n (f, rw z at r)

    go : (b : Bool) → eqb (kind_at l place) 20 ≡ b → Sparing l at count x w (place + size) (left - 1)
    go true k =
        let i = item (a_at l place) 5 (b_at l place) place in
        let told : x ≡ (once && ltb (length v) (length w)) = rw k at e in
        let grown : w ≡ (If here (a_at l place) v then v else i ∷ v) = rw k at g in
        record {
          goes = λ t bytes u ext r.
              let both = sym told ∙ t in
              let small : a_at l place < 65536 = number-below l bytes (8 * place + 2) two in
              let p = one-pushed i v w (here (a_at l place) v) grown (ltb-true (length v) (length w) (both_right once (ltb (length v) (length w)) both)) in
              let later : Extends (i ∷ v) u = rw p.1 at ext in
              s.goes (both_left once (ltb (length v) (length w)) both) bytes u
              (λ a h. let y = extends-push (a_at l place) 5 (b_at l place) place v small p.0 a h in let q = later a y.1 in (q.0 ∙ y.0, q.1))
              (here-and-later u (λ q. pushed_free (a_at l place) 5 (b_at l place) place v u small later) r);
        }
    go false k =
        let told : x ≡ once = rw k at e in
        let same : w ≡ v = rw k at g in
        record {
          goes = λ t bytes u ext r.
              s.goes (sym told ∙ t) bytes u (rw same at ext) (here-and-later u (λ q. clash (let y : true ≡ false = sym (eq-eqb _ _ q) ∙ k in cc)) r);
        }
