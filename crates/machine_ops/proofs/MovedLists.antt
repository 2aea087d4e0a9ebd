-- What the loops make of a state: arguments and fields moved, operands dropped, cells begun.
use mathlib.Core.Path.{◌≡◌, refl, sym, ap, ◌∙◌}
use mathlib.Core.List.{List, [], ◌∷◌, ◌++◌, reverse, reverse-cons, append_assoc, append-nil}
use mathlib.Core.Option.{some}
use Prim.Native.Nat.{ℕ, suc, ◌+◌, ◌*◌, ◌-◌, ◌≤◌, ◌<◌}
use native.Mathlib.Omega.{arith}
use lib.ListN.{length, get_elem?, length-append, length-reverse}
use lib.ListN.{set as replace}
use Rattle.bytecode.specs.Words.{value_word}
use Rattle.words.specs.Numbers.{byte_at}
use Rattle.values.specs.Types.{Ty, integer, logical, bits, reference, ty_byte}
use Rattle.values.specs.Values.{Value, Cell, assigned, initial, fresh, fresh_all}
use Rattle.bytecode.specs.Machine.{Activation, Made, Shared, assign_all}
use Rattle.bytecode.specs.State.{type_byte, records_at, record_length, cell_words_at, cell_types_at, field_words_at, field_types_at}
use Rattle.bytecode_layout.specs.Places.{frame_place}
use Rattle.bytecode_layout.specs.Steps.{activation}
use Rattle.bytecode_layout.specs.Records.{made}
use Rattle.machine_frames.specs.Bytes.{popped, cell_set}
use Rattle.machine_frames.specs.On.{On, on-pop, on-cell-next, on-field-next, read-operand}
use Rattle.machine_ops.specs.Moves.{dropped, filled, begun}

-- ── lists ──
pub assign-append : (vs ws : List Value) → assign_all (vs ++ ws) ≡ assign_all vs ++ assign_all ws
unfolding assign_all
assign-append [] ws = refl
assign-append (v ∷ vs) ws = ap (λ (l : List Cell). assigned v ∷ l) (assign-append vs ws)

pub assign-length : (vs : List Value) → length (assign_all vs) ≡ length vs
unfolding assign_all
assign-length [] = refl
assign-length (v ∷ vs) = ap suc (assign-length vs)

one-more : (v : Value) (vs : List Value) → assign_all (reverse (v ∷ vs)) ≡ assign_all (reverse vs) ++ (assigned v ∷ [])
unfolding assign_all
one-more v vs = rw (reverse-cons v vs) (assign-append (reverse vs) (v ∷ []))

pub last-there : (rs : List Made) (q : Made) → get_elem? (rs ++ (q ∷ [])) (length rs) ≡ some q
last-there [] q = refl
last-there (r ∷ rs) q = last-there rs q

last-replaced : (rs : List Made) (q p : Made) → replace (rs ++ (q ∷ [])) (length rs) p ≡ rs ++ (p ∷ [])
last-replaced [] q p = refl
last-replaced (r ∷ rs) q p = ap (λ (l : List Made). r ∷ l) (last-replaced rs q p)

-- ── the activation below the top ──
pub below_top : {l : List ℕ} {g : ℕ} {rs : Shared} {u t : Activation} {fs : List Activation} → On l g rs [] u (t ∷ fs) → (f : ℕ) → f ≡ frame_place (length fs) → On l f rs (u ∷ []) t fs
below_top {fs = fs} p f e =
    let few : suc (length fs) < 32 = p.few in
    record { few = omega arith; place = e; bytes = p.bytes }

pub above-it : {l : List ℕ} {f : ℕ} {rs : Shared} {u t : Activation} {fs : List Activation} → On l f rs (u ∷ []) t fs → length (t ∷ fs) < 32 → (g : ℕ)
    → g ≡ frame_place (length (t ∷ fs)) → On l g rs [] u (t ∷ fs)
above-it p few g e = record { few = few; place = e; bytes = p.bytes }

-- ── operands dropped: vs of them, us stay ──
pub on-drop : {rs : Shared} {ts fs : List Activation} {b i : ℕ} {cs : List Cell} {gs : List ℕ} (us vs : List Value) (l : List ℕ) (f n : ℕ) → On l f rs ts (activation b i cs (vs ++ us) gs) fs
    → n ≡ length (vs ++ us) → n ≤ 32 → On (dropped l f n (length vs)) f rs ts (activation b i cs us gs) fs
unfolding dropped
on-drop us [] l f n p e h = p
on-drop us (v ∷ vs) l f n p e h =
    let e' : n - 1 ≡ length (vs ++ us) = omega arith in
    on-drop us vs (popped l f (n - 1)) f (n - 1) (on-pop v p (n - 1) e' (omega arith)) e' (omega arith)

-- ── arguments moved: vs of them, deepest first, with ws above and us below ──
module _ {rs : Shared} {t : Activation} {fs : List Activation} (b i : ℕ) (us : List Value) (f g k : ℕ) (below : f ≡ frame_place (length fs))
    (count : k ≡ length us) (few : length t.operands ≤ 32) where
  pub on-fill : (vs ws : List Value) (l : List ℕ) → t.operands ≡ ws ++ (vs ++ us) → On l g rs [] (activation b i [] [] []) (t ∷ fs)
      → On (filled l f k (g + cell_words_at) (g + cell_types_at) (length vs)) g rs [] (activation b i (assign_all (reverse vs)) [] []) (t ∷ fs)
  unfolding filled assign_all
  on-fill [] ws l e p = p
  on-fill (v ∷ vs) ws l e p =
      let e' : t.operands ≡ (ws ++ (v ∷ [])) ++ (vs ++ us) = e ∙ sym (append_assoc ws (v ∷ []) (vs ++ us)) in
      let q = on-fill vs (ws ++ (v ∷ [])) l e' p in
      let n : k + length vs ≡ length (vs ++ us) = omega (arith, length-append vs us) in
      let h : k + length vs < 32 = omega (arith, ap length e, length-append ws (v ∷ (vs ++ us))) in
      let rd = read-operand (below_top q f below) ws v (vs ++ us) (k + length vs) e n h in
      let c : length vs ≡ length (assign_all (reverse vs)) = sym (assign-length (reverse vs) ∙ length-reverse vs) in
      let words : g + cell_words_at + 4 * length vs ≡ g + (cell_words_at + 4 * length vs) = omega arith in
      let types : g + cell_types_at + length vs ≡ g + (cell_types_at + length vs) = omega arith in
      rw (one-more v vs, words, types) (on-cell-next v _ _ rd.0 rd.1 q (length vs) c (omega arith))

-- ── fields moved ──
module _ {t : Activation} {fs : List Activation} (rs : List Made) (c : ℕ) (us : List Value) (f k : ℕ) (room : length rs < 256) (count : k ≡ length us) (few : length t.operands ≤ 32) where
  pub on-fields : (vs ws : List Value) (l : List ℕ) → t.operands ≡ ws ++ (vs ++ us) → length vs ≤ 8 → On l f (record { records = rs ++ (made c [] ∷ []) }) [] t fs
      → On (filled l f k (records_at + record_length * length rs + field_words_at) (records_at + record_length * length rs + field_types_at) (length vs)) f
      (record { records = rs ++ (made c (reverse vs) ∷ []) }) [] t fs
  unfolding filled
  on-fields [] ws l e s p = p
  on-fields (v ∷ vs) ws l e s p =
      let e' : t.operands ≡ (ws ++ (v ∷ [])) ++ (vs ++ us) = e ∙ sym (append_assoc ws (v ∷ []) (vs ++ us)) in
      let q = on-fields vs (ws ++ (v ∷ [])) l e' (omega arith) p in
      let n : k + length vs ≡ length (vs ++ us) = omega (arith, length-append vs us) in
      let h : k + length vs < 32 = omega (arith, ap length e, length-append ws (v ∷ (vs ++ us))) in
      let rd = read-operand q ws v (vs ++ us) (k + length vs) e n h in
      let x = on-field-next q v _ _ rd.0 rd.1 (length rs) c (reverse vs) (length vs) (last-there rs (made c (reverse vs))) room (sym (length-reverse vs)) (omega arith) in
      let at = records_at + record_length * length rs in
      let words : at + field_words_at + 4 * length vs ≡ at + (field_words_at + 4 * length vs) = omega arith in
      let types : at + field_types_at + length vs ≡ at + (field_types_at + length vs) = omega arith in
      rw (words, types, reverse-cons v vs, ← last-replaced rs (made c (reverse vs)) (made c (reverse vs ++ (v ∷ [])))) x

-- ── cells begun: of types ts, whose bytes stand from j on ──
abbrev pub TypesAt : List ℕ → ℕ → ℕ → List Ty → Type 0
TypesAt code q j [] = Unit {0}
TypesAt code q j (t ∷ ts) = (byte_at code (q + j) ≡ ty_byte t) × TypesAt code q (j + 1) ts

initial-word : (t : Ty) → (0 ≡ value_word (initial t)) × (ty_byte t ≡ type_byte (initial t))
initial-word integer = (refl, refl)
initial-word logical = (refl, refl)
initial-word bits = (refl, refl)
initial-word (reference c) = (refl, refl)

pub on-begin : {rs : Shared} {fs : List Activation} {b i : ℕ} (code : List ℕ) (q g : ℕ) (ts : List Ty) (cs : List Cell) (j : ℕ) (l : List ℕ) → TypesAt code q j ts → j ≡ length cs → j + length ts ≤ 32
    → On l g rs [] (activation b i cs [] []) fs → On (begun code q l g j (length ts)) g rs [] (activation b i (cs ++ fresh_all ts) [] []) fs
unfolding begun fresh_all
on-begin code q g [] cs j l ty e h p = rw (append-nil cs) p
on-begin code q g (t ∷ ts) cs j l ty e h p =
    let w = initial-word t in
    let p1 = on-cell-next (initial t) 0 (byte_at code (q + j)) w.0 (ty.0 ∙ w.1) p j e (omega arith) in
    let n : j + 1 ≡ length (cs ++ (fresh t ∷ [])) = sym (length-append cs (fresh t ∷ []) ∙ omega arith) in
    rw (← append_assoc cs (fresh t ∷ []) (fresh_all ts)) (on-begin code q g ts (cs ++ (fresh t ∷ [])) (j + 1) (cell_set l g j 0 (byte_at code (q + j))) ty.1 n (omega arith) p1)
