-- Sound states. (paper 01, Running)
use Rattle.std.specs.Prelude.{Bool, true, false, ◌&&◌, ◌||◌, List, [], ◌∷◌, ◌++◌, map, ℕ, eqb, leb, ltb, length, take}
use Rattle.std.proofs.Math.Option.{Option, none, some}
use Rattle.std.proofs.Math.ListN.{get_elem?}
use Rattle.std.specs.Int.Signed.{mag}
use Rattle.logic.specs.Lists.{all}
use Rattle.values.specs.Types.{Ty, sames}
use Rattle.values.specs.Ends.{is_condition}
use Rattle.values.specs.Values.{Value, int, log, bit, ref, tys_of, Cell, assigned, ty_of_cell}
use Rattle.bytecode.specs.Macro.{Body, Code, Macro, Shape}
use Rattle.bytecode.specs.Instructions.{body_at, in_body}
use Rattle.bytecode.specs.Rules.{found_at, on_stack}
use Rattle.bytecode.specs.Machine.{Activation, Made, end_by, Machine, running, unwinding, ended, max_activations, max_open_holds, max_records}

-- ── values ──
abbrev pub class_is : ℕ → Option Made → Bool
class_is c none = false
class_is c (some r) = eqb r.class c

-- "each reference is null or a made record of its class" (S7)
abbrev pub points : List Made → ℕ → Option ℕ → Bool
points rs c none = true
points rs c (some n) = class_is c (get_elem? rs n)

-- a value of 32 bits
unfoldable pub sound_value : List Made → Value → Bool
sound_value rs (int z) = ltb (mag z) 2147483648
sound_value rs (log b) = true
sound_value rs (bit n) = ltb n 4294967296
sound_value rs (ref c r) = points rs c r

abbrev pub typed_values : List Made → List Value → List Ty → Bool
typed_values rs vs ts = sames (tys_of vs) ts && all (sound_value rs) vs

abbrev pub sound_cell : List Made → Cell → Bool
sound_cell rs (assigned v) = sound_value rs v

abbrev pub typed_cells : List Made → List Cell → List Ty → Bool
typed_cells rs cs ts = sames (map ty_of_cell cs) ts && all (sound_cell rs) cs

-- ── records: of a class that the macro has, with values of its fields' types ──
abbrev pub of_class : List Made → Made → Option (List Ty) → Bool
of_class rs r none = false
of_class rs r (some ts) = typed_values rs r.fields ts

abbrev pub sound_record : Macro → List Made → Made → Bool
sound_record m rs r = of_class rs r (get_elem? m.classes r.class)

-- ── activations ──
abbrev pub sound_group : ℕ → Bool
sound_group g = leb g 63

-- what stands at an address: the state found there, with operands of which some may be taken
abbrev pub sound_at : Macro → List Made → Activation → List Ty → Option Shape → Option Body → Bool
sound_at m rs f taken none b = false
sound_at m rs f taken (some s) none = false
sound_at m rs f taken (some s) (some b) =
    sames (taken ++ tys_of f.operands) s.operands
    && (all (sound_value rs) f.operands
    && (eqb (length f.holds) s.holds
    && (all sound_group f.holds
    && typed_cells rs f.cells b.cells)))

-- "each activation is where the loading rules allow, … with as many holds as found there, of groups 0 to 63, and values of the types found there"
unfoldable pub sound_activation : Macro → List Made → List Ty → Activation → Bool
sound_activation m rs taken f =
    in_body m f.body f.address && sound_at m rs f taken (found_at m f.address) (body_at m f.body)

-- "all but the top at a call of the next, arguments taken" (S1)
abbrev pub calls_body : Option Code → ℕ → Bool
calls_body none k = false
calls_body (some c) k = eqb c.op 10 && (eqb c.a 0 && eqb c.b k)

abbrev pub parameters_of : Option Body → List Ty
parameters_of none = []
parameters_of (some b) = take b.parameters b.cells

unfoldable pub sound_waiting : Macro → List Made → ℕ → List Activation → Bool
sound_waiting m rs k [] = eqb k 0  -- "the lowest the root"
sound_waiting m rs k (f ∷ fs) =
    calls_body (get_elem? m.code f.address) k
    && (sound_activation m rs (on_stack (parameters_of (body_at m k))) f && sound_waiting m rs f.body fs)

-- ── states ──
-- "A state is sound if it has 1 to 32 activations, the lowest the root, and at most 256 records; …"
-- "While a condition is releasing, only the holds count; an ended state has none." (S5, S6)
unfoldable pub sound : Macro → Machine → Bool
sound m (running s f fs) =
    let rs = s.records in
    leb (length (f ∷ fs)) max_activations
    && (leb (length rs) max_records
    && (all (sound_record m rs) rs
    && (sound_activation m rs [] f && sound_waiting m rs f.body fs)))
sound m (unwinding gs (end_by c)) = is_condition c && (leb (length gs) max_open_holds && all sound_group gs)
sound m (ended c) = eqb c 0 || is_condition c
