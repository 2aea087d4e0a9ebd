-- What each instruction finds, read off its effect; and what the numbers of an instruction stand for.
use Rattle.std.specs.Prelude.{◌≡◌, Bool, true, false, ◌&&◌, ℕ, zero, suc, ◌≤◌, ◌<◌, eqb, leb, ltb, length}
use Rattle.std.proofs.Math.Path.{refl}
use Rattle.std.proofs.Common.{ap, ◌∙◌, subst, arith, eqb-true, leb-true, ltb-true, lt-ltb}
use mathlib.Core.List.{List, [], ◌∷◌}
use Rattle.std.proofs.Math.Option.{Option, none, some}
use Rattle.std.proofs.Math.ListN.{get_elem?}
use Rattle.std.specs.Int.Signed.{mag}
use Rattle.logic.specs.Choice.{If◌then◌else◌}
use Rattle.words.specs.Numbers.{integer_of}
use Rattle.words.specs.Laws.{integer-fits}
use Rattle.logic.specs.Lists.{among}
use Rattle.values.specs.Types.{Ty, integer, logical, bits, reference}
use Rattle.values.specs.Ends.{is_condition, case_index, step_zero}
use Rattle.values.specs.Operators.{Unary, unary, Binary, binary, op_type}
use Rattle.values.specs.Values.{Value, int, log, bit, ref, ty_of}
use Rattle.bytecode.specs.Macro.{Body, Code, Shape, shape, Macro}
use Rattle.bytecode.specs.Instructions.{Instr, end, push, load, store, operate, go, go_unless, call, return, make, get_field, put_field, set_level, read_fader, take_hold}
use Rattle.bytecode.specs.Instructions.{let_hold, assert, stop, exactly, stops_by, owner_of, operator_of, instruction, body_at, instr_at, cell_ty, field_ty, known, procedure_at}
use Rattle.bytecode.specs.Rules.{plain, wrong, effect, giving, taking, operating, pushing, calling, making, ending_in, returning}
use Rattle.bytecode.specs.Sound.{sound_value}
use Rattle.logic.specs.OptionLaws.{never-some, kept}
use Rattle.logic.specs.Tests.{by-test, halves}
use Rattle.logic.specs.ListLaws.{each_at}
use Rattle.bytecode_laws.specs.Terms.{Named, OfBytes, Passed, Allowed, Takes, Does, Literal, Finds}
use Rattle.bytecode_laws.specs.Takes.{takes_first, takes_one}
use Rattle.bytecode_laws.specs.Found.{follows, does}

-- ── the numbers of an instruction ──
abbrev Proper : Code → Instr → Type 0
Proper c end = Unit {0}
Proper c (push v) = Literal v
Proper c (load o x) = Unit {0}
Proper c (store o x) = Unit {0}
Proper c (operate o) = Unit {0}
Proper c (go i) = Unit {0}
Proper c (go_unless i) = Unit {0}
Proper c (call k) = (c.op ≡ 10) × (c.a ≡ 0) × (c.b ≡ k)
Proper c return = Unit {0}
Proper c (make d) = Unit {0}
Proper c (get_field d x) = Unit {0}
Proper c (put_field d x) = Unit {0}
Proper c set_level = Unit {0}
Proper c read_fader = Unit {0}
Proper c (take_hold g) = g ≤ 63
Proper c let_hold = Unit {0}
Proper c assert = Unit {0}
Proper c (stop n) = is_condition n ≡ true

literal-integer : (n : ℕ) → n < 4294967296 → Literal (int (integer_of n))
unfolding sound_value
literal-integer n h rs = lt-ltb (mag (integer_of n)) 2147483648 (integer-fits n h).sfits

literal-bits : (n : ℕ) → n < 4294967296 → Literal (bit n)
unfolding sound_value
literal-bits n h rs = lt-ltb n 4294967296 h

literal-logical : (b : Bool) → Literal (log b)
unfolding sound_value
literal-logical b rs = refl

literal-null : (c : ℕ) → Literal (ref c none)
unfolding sound_value
literal-null c rs = refl

-- what op 20 stops by is a condition
pub stop-condition : (n : ℕ) → stops_by n ≡ true → is_condition n ≡ true
unfolding among
stop-condition n h =
    by-test (eqb n case_index) (λ e. rw (eqb-true n case_index e)) (λ e. rw (eqb-true n step_zero (rw e at h)))

module _ (c : Code) where
  either : (b : Bool) (o p : Option Instr) (x : Instr) → (b ≡ true → o ≡ some x → Proper c x) → (p ≡ some x → Proper c x)
      → (If b then o else p) ≡ some x → Proper c x
  either true o p x f g h = f refl h
  either false o p x f g h = g h

  just : (b : Bool) (y x : Instr) → (b ≡ true → Proper c y) → exactly b y ≡ some x → Proper c x
  just true y x f h = let e : y ≡ x = cc in subst (Proper c) e (f refl)
  just false y x f h = never-some h

  made : (y x : Instr) → Proper c y → some y ≡ some x → Proper c x
  made y x p h = let e : y ≡ x = cc in subst (Proper c) e p

pub proper : (c : Code) (x : Instr) → OfBytes c → instruction c ≡ some x → Proper c x
unfolding instruction
proper c x w h =
    let n = c.b in let a = c.a in let p = eqb a 0 && eqb n 0 in
    either c (eqb c.op 0) _ _ x (λ t. just c p end x (λ e. tt)) (
    either c (eqb c.op 1) _ _ x (λ t. just c (eqb a 0) (push (int (integer_of n))) x (λ e. literal-integer n w.b-word)) (
    either c (eqb c.op 2) _ _ x (λ t. just c (eqb a 0 && ltb n 2) (push (log (eqb n 1))) x (λ e. literal-logical (eqb n 1))) (
    either c (eqb c.op 3) _ _ x (λ t. just c (eqb a 0) (push (bit n)) x (λ e. literal-bits n w.b-word)) (
    either c (eqb c.op 4) _ _ x (λ t. just c (eqb n 0) (push (ref a none)) x (λ e. literal-null a)) (
    either c (eqb c.op 5) _ _ x (λ t h. let q = kept (owner_of a) (λ o. some (load o n)) x h in made c (load q.0 n) x tt q.2) (
    either c (eqb c.op 6) _ _ x (λ t h. let q = kept (owner_of a) (λ o. some (store o n)) x h in made c (store q.0 n) x tt q.2) (
    either c (eqb c.op 7) _ _ x
    (λ t h. let q = kept (operator_of a) (λ o. exactly (eqb n 0) (operate o)) x h in just c (eqb n 0) (operate q.0) x (λ e. tt) q.2) (
    either c (eqb c.op 8) _ _ x (λ t. just c (eqb a 0) (go n) x (λ e. tt)) (
    either c (eqb c.op 9) _ _ x (λ t. just c (eqb a 0) (go_unless n) x (λ e. tt)) (
    either c (eqb c.op 10) _ _ x (λ t. just c (eqb a 0) (call n) x (λ e. (eqb-true c.op 10 t, eqb-true a 0 e, refl))) (
    either c (eqb c.op 11) _ _ x (λ t. just c p return x (λ e. tt)) (
    either c (eqb c.op 12) _ _ x (λ t. just c (eqb n 0) (make a) x (λ e. tt)) (
    either c (eqb c.op 13) _ _ x (λ t. made c (get_field a n) x tt) (
    either c (eqb c.op 14) _ _ x (λ t. made c (put_field a n) x tt) (
    either c (eqb c.op 15) _ _ x (λ t. just c p set_level x (λ e. tt)) (
    either c (eqb c.op 16) _ _ x (λ t. just c p read_fader x (λ e. tt)) (
    either c (eqb c.op 17) _ _ x (λ t. just c (eqb a 0 && leb n 63) (take_hold n) x (λ e. leb-true n 63 (halves (eqb a 0) (leb n 63) e).1)) (
    either c (eqb c.op 18) _ _ x (λ t. just c p let_hold x (λ e. tt)) (
    either c (eqb c.op 19) _ _ x (λ t. just c p assert x (λ e. tt)) (
    either c (eqb c.op 20) _ none x (λ t. just c (stops_by a && eqb n 0) (stop a) x (λ e. stop-condition a (halves (stops_by a) (eqb n 0) e).0)) never-some)))))))))))))))))))) h

-- ── what is declared ──
pub known-named : (m : Macro) (t : Ty) → known m t ≡ true → Named (length m.classes) t
known-named m integer h = tt
known-named m logical h = tt
known-named m bits h = tt
known-named m (reference c) h = ltb-true c (length m.classes) h

pub named-known : (m : Macro) (t : Ty) → Named (length m.classes) t → known m t ≡ true
named-known m integer h = refl
named-known m logical h = refl
named-known m bits h = refl
named-known m (reference c) h = lt-ltb c (length m.classes) h

a-procedure : (m : Macro) (k : ℕ) (b : Body) → procedure_at m k ≡ some b → (0 < k) × (body_at m k ≡ some b)
a-procedure m zero b h = never-some h
a-procedure m (suc k) b h = (omega arith, h)

module _ (m : Macro) (w : Passed m) where
  proper-at : (i : ℕ) (x : Instr) → instr_at m i ≡ some x → (c : Code) × (get_elem? m.code i ≡ some c) × Proper c x
  proper-at i x h =
      let q = kept (get_elem? m.code i) instruction x h in
      (q.0, q.1, proper q.0 x (each_at OfBytes m.code i q.0 w.narrow.instructions-narrow q.1) q.2)

  -- a call is op 10 of its body, on the code record too
  pub call-there : (i k : ℕ) → instr_at m i ≡ some (call k) → (c : Code) × (get_elem? m.code i ≡ some c) × (c.op ≡ 10) × (c.a ≡ 0) × (c.b ≡ k)
  call-there i k h = let q = proper-at i (call k) h in (q.0, q.1, q.2.0, q.2.1, q.2.2)

  module _ (k i : ℕ) (s : Shape) where
    by-giving : (o : Option Ty) (ins : List Ty) → Does m k i s (giving o ins) → (t : Ty) × (o ≡ some t) × Does m k i s (plain ins (t ∷ []))
    by-giving none ins d = absurd d
    by-giving (some t) ins d = (t, refl, d)

    by-taking : (o : Option Ty) (ins : List Ty) → Does m k i s (taking o ins) → (t : Ty) × (o ≡ some t) × Does m k i s (plain (t ∷ ins) [])
    by-taking none ins d = absurd d
    by-taking (some t) ins d = (t, refl, d)

    by-unary : (o : Unary) (ts : List Ty) → s.operands ≡ ts → Does m k i s (operating (unary o) ts) → Finds m k i s (operate (unary o))
    by-unary o [] e d = absurd d
    by-unary o (t ∷ ts) e d =
        let q = by-giving (op_type (unary o) (t ∷ [])) (t ∷ []) d in
        let u = takes_one t t ts q.2.0 (subst (λ x. Takes (t ∷ []) x q.2.0) e q.2.1) in
        (t, q.0, q.2.0, e ∙ ap (λ x. t ∷ x) u, q.1, q.2.2)

    by-binary : (o : Binary) (ts : List Ty) → s.operands ≡ ts → Does m k i s (operating (binary o) ts) → Finds m k i s (operate (binary o))
    by-binary o [] e d = absurd d
    by-binary o (t ∷ []) e d = absurd d
    by-binary o (t ∷ (u ∷ ts)) e d =
        let q = by-giving (op_type (binary o) (u ∷ t ∷ [])) (t ∷ u ∷ []) d in
        let r = (takes_first t t (u ∷ []) (u ∷ ts) q.2.0 (subst (λ x. Takes (t ∷ u ∷ []) x q.2.0) e q.2.1)).1 in
        let v = takes_one u u ts q.2.0 r in
        (t, u, q.0, q.2.0, e ∙ ap (λ x. t ∷ u ∷ x) v, q.1, q.2.2)

    by-push : (v : Value) → Does m k i s (pushing m v) → Named (length m.classes) (ty_of v) × Does m k i s (plain [] (ty_of v ∷ []))
    by-push v d = pick (known m (ty_of v)) refl d
      where
        pick : (b : Bool) → known m (ty_of v) ≡ b → Does m k i s (If b then plain [] (ty_of v ∷ []) else wrong)
            → Named (length m.classes) (ty_of v) × Does m k i s (plain [] (ty_of v ∷ []))
        pick true e d = (known-named m (ty_of v) e, d)
        pick false e d = absurd d

    by_call : (j : ℕ) (o : Option Body) → procedure_at m j ≡ o → Does m k i s (calling o) → Finds m k i s (call j)
    by_call j none e d = absurd d
    by_call j (some b) e d = let p = a-procedure m j b e in (b, p.0, p.1, d)

    by-make : (c : ℕ) (o : Option (List Ty)) → get_elem? m.classes c ≡ o → Does m k i s (making o c) → Finds m k i s (make c)
    by-make c none e d = absurd d
    by-make c (some ts) e d = (ts, e, d)

    by_field : (c x : ℕ) (t : Ty) → field_ty m c x ≡ some t → (ts : List Ty) × (get_elem? m.classes c ≡ some ts) × (get_elem? ts x ≡ some t)
    by_field c x t h = kept (get_elem? m.classes c) (λ ts. get_elem? ts x) t h

    by_end : (n : ℕ) → Does m k i s (ending_in n) → (n ≡ 0) × (s ≡ shape 0 [])
    by_end zero d = (refl, d)
    by_end (suc n) d = absurd d

    by-return : (o : Option Body) → procedure_at m k ≡ o → Does m k i s (returning o) → Finds m k i s return
    by-return none e d = absurd d
    by-return (some b) e d = let p = a-procedure m k b e in (b, p.0, p.1, d)

    by-effect : (x : Instr) → ((c : Code) × (get_elem? m.code i ≡ some c) × Proper c x) → Does m k i s (effect m k x s) → Finds m k i s x
    unfolding effect
    by-effect end p d = by_end k d
    by-effect (push v) p d = let q = by-push v d in (p.2, q.0, q.1)
    by-effect (load o x) p d = by-giving (cell_ty m k o x) [] d
    by-effect (store o x) p d = by-taking (cell_ty m k o x) [] d
    by-effect (operate (unary o)) p d = by-unary o s.operands refl d
    by-effect (operate (binary o)) p d = by-binary o s.operands refl d
    by-effect (go j) p d = d
    by-effect (go_unless j) p d = d
    by-effect (call j) p d = by_call j (procedure_at m j) refl d
    by-effect return p d = by-return (procedure_at m k) refl d
    by-effect (make c) p d = by-make c (get_elem? m.classes c) refl d
    by-effect (get_field c x) p d =
        let q = by-giving (field_ty m c x) (reference c ∷ []) d in
        let f = by_field c x q.0 q.1 in (f.0, q.0, f.1, f.2, q.2)
    by-effect (put_field c x) p d =
        let q = by-taking (field_ty m c x) (reference c ∷ []) d in
        let f = by_field c x q.0 q.1 in (f.0, q.0, f.1, f.2, q.2)
    by-effect set_level p d = d
    by-effect read_fader p d = d
    by-effect (take_hold g) p d = (p.2, d)
    by-effect let_hold p d = d
    by-effect assert p d = d
    by-effect (stop c) p d = p.2

    pub finds : Allowed m k i s → (x : Instr) × (instr_at m i ≡ some x) × Finds m k i s x
    finds a =
        let f = follows m w k i s a in
        (f.0, f.1, by-effect f.0 (proper-at i f.0 f.1) (does m w k i s (effect m k f.0 s) f.2))
