-- Entering a for clause: its control name stands for the first of the loop's cells, and labels are reached as from around it.
use Rattle.std.specs.Prelude.{◌≡◌, refl, Bool, true, false, List, [], ◌∷◌, ℕ, ◌<◌, eqb, get_or}
use Rattle.std.proofs.Common.{sym, ◌∙◌, arith}
use Rattle.std.proofs.Math.Option.{some}
use Rattle.logic.specs.Choice.{If◌then◌else◌}
use Rattle.values.specs.Types.{integer}
use Rattle.language.specs.Names.{is_control, define, loop_of, nowhere, found, first_of}
use Rattle.language_laws.specs.Lookup.{lookup-loop}
use Rattle.bytecode.specs.Instructions.{own}
use Rattle.compile_code.specs.Compile.{Around, inside, bound, scopes_of, held_in, bound_at, global_at, kept, cell_of, passing, size_goto}
use Rattle.compile_code.specs.Encode.{owner_code}
use Rattle.compile_names.specs.Known.{bound-look, nothing}
use Rattle.compile_symbols.specs.Numbers.{packed}
use Rattle.table_scopes.specs.Environment.{Item, item, Nothing, Def, opened, find, here, add_all}
use Rattle.table_scopes.specs.EnvironmentLaws.{first_in, Small, or_outer, find-item, past-mark, passing-none}
use Rattle.table_scopes.specs.Sees.{Sees, sees-loop}
use Rattle.compile_nodes.specs.Knows.{Walk, MeansCell, MeansLabel, Means, Knows, Lands, target_of}
use Rattle.compile_scopes.specs.Marks.{passed-mark, passed-name}
use Rattle.compile_scopes.specs.Means.{Both, knows-inside}

-- the names in sight within a for clause whose kind 31 stands at a place, and what lies around its statement: its value is in cell c
abbrev pub in_turn : ℕ → ℕ → List Item → List Item
in_turn a place v = item a 8 1 place ∷ (item opened 0 0 0 ∷ v)

abbrev pub around_turn : ℕ → ℕ → List Around → List Around
around_turn a c Γ = bound a c ∷ inside (loop_of a) ∷ Γ

pub scopes-turn : (a c : ℕ) (Γ : List Around) → scopes_of (around_turn a c Γ) ≡ loop_of a ∷ scopes_of Γ
unfolding scopes_of
scopes-turn a c Γ = refl

pub held-turn : (a c : ℕ) (Γ : List Around) → held_in (around_turn a c Γ) ≡ held_in Γ
unfolding held_in
held-turn a c Γ = refl

-- ── what names stand for ──
look-turn : (a b c : ℕ) (Γ : List Around) → cell_of b (around_turn a c Γ) ≡ (If eqb a b then some (kept own c) else cell_of b Γ)
unfolding bound_at global_at
look-turn a b c Γ = bound-look b a c (inside (loop_of a) ∷ Γ)

owned-turn : (b : Bool) → (If b then 0 else 0) ≡ owner_code own
owned-turn true = refl
owned-turn false = refl

pub control-means : (W : Walk) (a b place c : ℕ) (Γ : List Around) → eqb a b ≡ true → get_or W.known place 0 ≡ packed 1 0 c → c < 256 → MeansCell W (around_turn a c Γ) b place integer
control-means W a b place c Γ e number small = record {
  owner = own;
  cell = c;
  whose = 0;
  found = look-turn a b c Γ ∙ rw e;
  number = number;
  owned = owned-turn W.within;
  small-type = omega arith;
  small-whose = omega arith;
  small-cell = small;
}

pub sees-in-turn : {l : List ℕ} {v : List Item} (Γ : List Around) (a place c : ℕ) → a < 65536 → Sees l v (scopes_of Γ) → Sees l (in_turn a place v) (scopes_of (around_turn a c Γ))
unfolding scopes_of
sees-in-turn Γ a place c small see = sees-loop see a place small

pub knows-in-turn : {W : Walk} {v : List Item} {Γ : List Around} (a place c : ℕ) → a < 65536 → get_or W.known place 0 ≡ packed 1 0 c → c < 256
    → Knows W v Γ → Knows W (in_turn a place v) (around_turn a c Γ)
unfolding scopes_of add_all here Small first_in first_of
knows-in-turn {W} {v} {Γ} a place c small number few know =
    knows-inside W {Γ = Γ} {Δ = around_turn a c Γ} know opened (item a 8 1 place ∷ []) (define a is_control ∷ []) (λ x. x) (omega arith) (small, tt)
    (λ b. lookup-loop b (define a is_control) (scopes_of Γ)) (λ b f x k. k)
    (λ b e. look-turn a b c Γ ∙ past b (eqb a b) e)
    (λ b. new b (eqb a b) refl)
  where
    past : (b : ℕ) (t : Bool) → (If t then found is_control false else nowhere) ≡ nowhere → (If t then some (kept own c) else cell_of b Γ) ≡ cell_of b Γ
    past b true e = nothing is_control false (sym e)
    past b false e = refl

    new : (b : ℕ) (t : Bool) → eqb a b ≡ t
        → Both (λ q s. Means W (around_turn a c Γ) b q s) (If t then Def 8 1 place false else Nothing) (If t then found is_control false else nowhere)
    new b true e = control-means W a b place c Γ e number few
    new b false e = tt

-- ── where a goto lands ──
pub lands-in-turn : {W : Walk} {v : List Item} {Γ : List Around} (a place c : ℕ) → a < 65536 → Lands W v Γ → Lands W (in_turn a place v) (around_turn a c Γ)
unfolding passing size_goto target_of first_in
lands-in-turn {W} {v} {Γ} a place c small land = record {
  lands = λ b n q z e.
      go b n q z (eqb a b) refl
      (sym (find-item b a 8 1 place (item opened 0 0 0 ∷ v) small) ∙ e);
}
  where
    go : (b n q : ℕ) → b < 65536 → (t : Bool) → eqb a b ≡ t → or_outer (If t then Def 8 1 place false else Nothing) (find b (item opened 0 0 0 ∷ v)) ≡ Def 5 n q false
        → MeansLabel W (in_turn a place v) (around_turn a c Γ) b q
    go b n q z true e y = let i : ◌≡◌ {A = ℕ} 8 5 = cc in absurd (omega arith)
    go b n q z false e y =
        let m = land.lands b n q z (passing-none (find b v) ∙ sym (past-mark b z opened 0 0 0 v (omega arith)) ∙ y) in
        record {
          passed = rw (passed-name b z a 8 1 place (item opened 0 0 0 ∷ v) small, e, passed-mark b z opened v (omega arith) (omega arith)) m.passed;
          aimed = m.aimed;
        }
