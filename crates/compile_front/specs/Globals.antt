-- The loops over the root's declarations: what each declaration adds.
use Rattle.std.specs.Prelude.{◌≡◌, ℕ, ◌+◌, ◌-◌, ◌*◌, ◌/◌, ◌%◌, ◌≤◌, ◌<◌, leb, pos, get_or}
use Rattle.std.proofs.Math.Path.{refl, ap}
use Rattle.std.proofs.Common.{sym, ◌∙◌, leb-true}
use mathlib.Core.List.{List, [], ◌∷◌, ◌++◌, map}
use native.Mathlib.Omega.{arith}
use Rattle.std.proofs.Math.ListN.{length}
use Rattle.std.proofs.lemmas.List.{length-map}
use Rattle.language.specs.Program.{flat_typed, flat_decl, result_code, flat_body, flat_global}
use Rattle.words.specs.Numbers.{half_at}
use Rattle.language.specs.Tree.{Typed, declare, holding, Global, local, class, procedure, Tree, locals}
use Rattle.language.specs.Table.{Entry, entry, in_layout}
use Rattle.logic.specs.Tests.{both_left, both_right}
use Rattle.table_entries.specs.Entries.{entry_at}
use Rattle.table_scopes.specs.Trees.{Heads}
use Rattle.values.specs.Types.{ty_byte}
use Rattle.compile_code.specs.Compile.{classes_of, class_names, Proc, procs_of}
use Rattle.compile_code.specs.Encode.{proc_parts, proc_part, heads_of, field_types, body_bytes, each}
use Rattle.compile_symbols.specs.Numbers.{cells_within}
use Rattle.compile_symbols.specs.Tabled.{Tabled, Headed, the_tree, classes_in, Within, part_at, Left, left-start, Next, next-global, heads-here}
use Rattle.compile_symbols.specs.Classes.{entry-at, left-within, none_left}
use Rattle.compile_symbols.specs.Whole.{kind_of, kind-here}
use Rattle.compile_front.specs.Types.{types_of, types-append, types-end, types-length}
use Rattle.compile_front.specs.Bodies.{body_of, class-bytes, proc-cells, proc-bytes}
use Rattle.compile_front.specs.Writing.{Wrote, Writing, writing_start, writing-next, writing-room, writing-end}
use Rattle.compile_front.specs.Front.{class_part, body_part, Brief, first_after, classes_from, variables_from, procs_from, next_first, Firsts, procs_front, Few, Ended}

-- ── what a declaration adds ──
module _ (t : Tree) where
  abbrev cs : List ℕ
  cs = class_names (classes_of t.head)

  typed-count : (xs : List Typed) → cells_within (map flat_typed xs) ≡ length (map flat_typed xs)
  unfolding cells_within flat_typed
  typed-count [] = refl
  typed-count (x ∷ xs) = omega (arith, typed-count xs)

  pub classes-step : (g : Global) (gs : List Global) → classes_from t (g ∷ gs) ≡ class_part cs (flat_global g) ++ classes_from t gs
  unfolding classes_from classes_of field_types each class_part flat_global flat_decl flat_typed
  classes-step (local (declare x)) gs = refl
  classes-step (local (holding k)) gs = refl
  classes-step (class c xs) gs =
      let n : length (types_of cs (map flat_typed xs) []) ≡ length (map flat_typed xs) = types-length cs (map flat_typed xs) [] ∙ omega (arith, typed-count xs) in
      ap (λ (l : List ℕ). l ++ classes_from t gs) (class-bytes t.head xs ∙ ap (λ (k : ℕ). 67 ∷ 76 ∷ k ∷ types_of cs (map flat_typed xs) []) n)
  classes-step (procedure a xs b) gs = refl

  pub variables-step : (g : Global) (gs : List Global) (e : Entry) (us : List Entry) → flat_global g ≡ e ∷ us → variables_from t (g ∷ gs) ≡ types_of cs (e ∷ []) [] ++ variables_from t gs
  unfolding variables_from locals flat_global types_of
  variables-step (local d) gs e us k =
      let z : flat_decl d ≡ e = cc in
      ap (λ (x : Entry). types_of cs ((x ∷ []) ++ map flat_decl (locals gs)) []) z
      ∙ (types-append cs (e ∷ []) (map flat_decl (locals gs)) [] ∙ types-end cs (e ∷ []) (types_of cs (map flat_decl (locals gs)) []))
  variables-step (class c xs) gs e us k =
      let z : entry 11 c (pos (length xs)) ≡ e = cc in ap (λ (x : Entry). types_of cs (x ∷ []) [] ++ variables_from t gs) z
  variables-step (procedure a xs b) gs e us k =
      let z : entry 12 a (pos (256 * length xs + result_code b)) ≡ e = cc in ap (λ (x : Entry). types_of cs (x ∷ []) [] ++ variables_from t gs) z

  pub procs-step : (g : Global) (gs : List Global) (a : ℕ) → Heads g → procs_from t (g ∷ gs) a ≡ body_part cs a (flat_global g) ++ procs_from t gs (next_first t g a)
  unfolding procs_from procs_of proc_parts heads_of each body_part next_first flat_global flat_decl flat_typed Heads
  procs-step (local (declare x)) gs a h = refl
  procs-step (local (holding k)) gs a h = refl
  procs-step (class c xs) gs a h = refl
  procs-step (procedure n xs b) gs a h =
      let q : Proc = record { name = n; parameters = xs; body = b } in
      let d : (256 * length xs + result_code b) / 256 ≡ length xs = omega arith in
      let m : (256 * length xs + result_code b) % 256 ≡ result_code b = omega arith in
      let ts = types_of cs (map flat_typed xs ++ flat_body b) [] in
      let y : body_bytes (proc_part t q a).head ≡ body_of a ((256 * length xs + result_code b) / 256) ((256 * length xs + result_code b) % 256) ts = rw (d, m) (proc-bytes t q a h) in
      ap (λ (l : List ℕ). l ++ procs_from t gs (next_first t (procedure n xs b) a)) y

-- ── the loops ──
-- W gs is what is to be written for the declarations gs
pub record HeadWriting (W : List Global → List ℕ) (l old : List ℕ) (from : ℕ) (new : List ℕ) (place left at : ℕ) : Type 0 where
  pub globals : List Global
  pub remain : Left l place left globals
  pub some : 1 ≤ place
  pub writing : Writing old from (W (the_tree l).head) new at (W globals)

pub head-start : {l sizes : List ℕ} {count : ℕ} (W : List Global → List ℕ) (old : List ℕ) (from : ℕ) → Headed l sizes count → HeadWriting W l old from old 1 count from
head-start {l} W old from h = record { globals = (the_tree l).head; remain = left-start h; some = omega arith; writing = writing_start old from (W (the_tree l).head) }

-- what a declaration adds: X
abbrev pub Adds : (List Global → List ℕ) → List ℕ → List ℕ → ℕ → ℕ → List ℕ → Type 0
Adds W l sizes place left X = (g : Global) (gs : List Global) → Next l sizes place left g gs → W (g ∷ gs) ≡ X ++ W gs

module _ {W : List Global → List ℕ} {l old new sizes : List ℕ} {t : Tree} {from place left at : ℕ} (h : Tabled l sizes t) (s : HeadWriting W l old from new place left at) where
  pub head-within : 0 < left → Within l sizes place
  head-within k = left-within s.globals h s.remain k

  room_in : (X : List ℕ) → Adds W l sizes place left X → from + length (W (the_tree l).head) ≤ length old → 0 < left → (gs : List Global) → Left l place left gs
      → Writing old from (W (the_tree l).head) new at (W gs) → at + length X ≤ length new
  room_in X a r k [] q w = absurd (omega (arith, q.many))
  room_in X a r k (g ∷ gs) q w = writing-room w X (W gs) (a g gs (next-global g gs h q)) r

  pub head-room : (X : List ℕ) → Adds W l sizes place left X → from + length (W (the_tree l).head) ≤ length old → 0 < left → at + length X ≤ length new
  head-room X a r k = room_in X a r k s.globals s.remain s.writing

  next-in : {X late : List ℕ} {q size : ℕ} → Adds W l sizes place left X → Wrote new at X late q → size ≡ get_or sizes place 0 → 0 < left → (gs : List Global) → Left l place left gs
      → Writing old from (W (the_tree l).head) new at (W gs) → HeadWriting W l old from late (place + size) (left - 1) q
  next-in a w e k [] m y = absurd (omega (arith, m.many))
  next-in {X} a w e k (g ∷ gs) m y =
      let n = next-global g gs h m in
      record { globals = gs; remain = rw e n.next; some = omega (arith, s.some); writing = writing-next y X (W gs) (a g gs n) w }

  pub head-next : {X late : List ℕ} {q size : ℕ} → Adds W l sizes place left X → Wrote new at X late q → size ≡ get_or sizes place 0 → 0 < left
      → HeadWriting W l old from late (place + size) (left - 1) q
  head-next a w e k = next-in a w e k s.globals s.remain s.writing

  pub head-end : W [] ≡ [] → left ≡ 0 → Wrote old from (W (the_tree l).head) new at
  head-end z k = writing-end s.writing (ap W (none_left s.globals s.remain k) ∙ z)

-- ── classes ──
pub classes-add : (l sizes : List ℕ) (place left : ℕ) → Adds (classes_from (the_tree l)) l sizes place left (class_part (classes_in l) (part_at l sizes place))
classes-add l sizes place left g gs n = classes-step (the_tree l) g gs ∙ ap (λ (us : List Entry). class_part (classes_in l) us ++ classes_from (the_tree l) gs) (sym n.part)

pub classes-none : (t : Tree) → classes_from t [] ≡ []
unfolding classes_from classes_of field_types each
classes-none t = refl

-- "11 class a with b fields, 1 to 8"
few-fields : {l sizes : List ℕ} {t : Tree} {place left : ℕ} (g : Global) (gs : List Global) → Tabled l sizes t → Next l sizes place left g gs → kind_of g ≡ 11 → get_or sizes place 0 ≤ 9
unfolding kind_of flat_global in_layout
few-fields (local (declare x)) gs h n k = absurd (omega arith)
few-fields (local (holding g)) gs h n k = absurd (omega arith)
few-fields {l} {sizes} {t} {place} (class c xs) gs h n k =
    let y = h.legible.layout place (entry 11 c (pos (length xs))) (map flat_typed xs) n.stands in
    omega (arith, leb-true (length xs) 8 (both_right (leb 1 (length xs)) (leb (length xs) 8) y), n.size, length-map xs flat_typed)
few-fields (procedure a xs b) gs h n k = absurd (omega arith)

class-short-in : {l sizes : List ℕ} {t : Tree} {place left : ℕ} (gs : List Global) → Tabled l sizes t → Left l place left gs → 0 < left → half_at l (8 * place) ≡ 11 → get_or sizes place 0 ≤ 256
class-short-in [] h q k e = absurd (omega (arith, q.many))
class-short-in {l} {place = place} (g ∷ gs) h q k e = let n = next-global g gs h q in omega (arith, few-fields g gs h n (sym (kind-here l place g gs n) ∙ e))

pub class-short : {W : List Global → List ℕ} {l old new sizes : List ℕ} {t : Tree} {from place left at : ℕ} → Tabled l sizes t → HeadWriting W l old from new place left at → 0 < left
    → half_at l (8 * place) ≡ 11 → get_or sizes place 0 ≤ 256
class-short h s k e = class-short-in s.globals h s.remain k e

-- ── the root's variables ──
first_entry : (g : Global) → (e : Entry) × (us : List Entry) × (flat_global g ≡ e ∷ us)
unfolding flat_global
first_entry (local d) = (flat_decl d, [], refl)
first_entry (class c xs) = (entry 11 c (pos (length xs)), map flat_typed xs, refl)
first_entry (procedure a xs b) = (entry 12 a (pos (256 * length xs + result_code b)), map flat_typed xs ++ flat_body b, refl)

pub variables-add : (l sizes : List ℕ) (place left : ℕ) → Adds (variables_from (the_tree l)) l sizes place left (types_of (classes_in l) (entry_at l place ∷ []) [])
variables-add l sizes place left g gs n =
    let f = first_entry g in
    let e = entry-at l place f.0 f.1 (rw f.2 at n.stands) in
    variables-step (the_tree l) g gs f.0 f.1 f.2 ∙ ap (λ (x : Entry). types_of (classes_in l) (x ∷ []) [] ++ variables_from (the_tree l) gs) (sym e)

pub variables-none : (t : Tree) → variables_from t [] ≡ []
unfolding variables_from locals types_of
variables-none t = refl

-- ── procedures ──
pub record ProcsWriting (l ends old : List ℕ) (from : ℕ) (new : List ℕ) (place left first at : ℕ) : Type 0 where
  pub globals : List Global
  pub remain : Left l place left globals
  pub firsts : Firsts (the_tree l) ends globals place first
  pub few : Few (heads_of (proc_parts (the_tree l) (procs_of globals) first))
  pub writing : Writing old from (procs_front l) new at (procs_from (the_tree l) globals first)

pub procs-start : {l sizes ends : List ℕ} {count : ℕ} (old : List ℕ) (from first : ℕ) → Headed l sizes count → Ended l ends → first ≡ get_or ends 0 0
    → ProcsWriting l ends old from old 1 count first from
procs-start {l} old from first h e k =
    let z = k ∙ e.root in
    record { globals = (the_tree l).head; remain = left-start h; firsts = rw z e.firsts; few = rw z e.few; writing = rw z (writing_start old from (procs_front l)) }

-- a procedure has few cells, and so have the others
few-first : (t : Tree) (g : Global) (gs : List Global) (a : ℕ) → Few (heads_of (proc_parts t (procs_of (g ∷ gs)) a)) → Few (heads_of (proc_parts t (procs_of gs) (next_first t g a)))
unfolding procs_of proc_parts heads_of next_first
few-first t (local d) gs a h = h
few-first t (class c xs) gs a h = h
few-first t (procedure n xs b) gs a h = h.1

-- "12 procedure a, b = 256 × parameters (0 to 8) + result"
brief-global : {l sizes : List ℕ} {left place : ℕ} (g : Global) (gs : List Global) (a : ℕ) → Tabled l sizes (the_tree l) → Next l sizes place left g gs
    → Few (heads_of (proc_parts (the_tree l) (procs_of (g ∷ gs)) a)) → kind_of g ≡ 12 → Brief l (flat_global g)
unfolding kind_of flat_global Brief procs_of proc_parts heads_of in_layout
brief-global (local (declare x)) gs a h n f k = absurd (omega arith)
brief-global (local (holding g)) gs a h n f k = absurd (omega arith)
brief-global (class c xs) gs a h n f k = absurd (omega arith)
brief-global {l} {sizes} {left} {place} (procedure m xs b) gs a h n f k =
    let q : Proc = record { name = m; parameters = xs; body = b } in
    let w = 256 * length xs + result_code b in
    let y = h.legible.layout place (entry 12 m (pos w)) (map flat_typed xs ++ flat_body b) n.stands in
    let j = leb-true (w / 256) 8 (both_left (leb (w / 256) 8) (leb (w % 256) 3) y) in
    let z = sym (length-map (proc_part (the_tree l) q a).head.cells ty_byte) ∙ ap length (proc-cells (the_tree l) q a) in
    (omega arith, omega (arith, f.0))

module _ {l ends old new sizes : List ℕ} {from place left first at : ℕ} (h : Tabled l sizes (the_tree l)) (s : ProcsWriting l ends old from new place left first at) where
  pub procs-within : 0 < left → Within l sizes place
  procs-within k = left-within s.globals h s.remain k

  brief-in : 0 < left → (gs : List Global) → Left l place left gs → Few (heads_of (proc_parts (the_tree l) (procs_of gs) first)) → half_at l (8 * place) ≡ 12 → Brief l (part_at l sizes place)
  brief-in k [] q f e = absurd (omega (arith, q.many))
  brief-in k (g ∷ gs) q f e =
      let n = next-global g gs h q in
      rw n.part (brief-global g gs first h n f (sym (kind-here l place g gs n) ∙ e))

  pub procs-brief : 0 < left → half_at l (8 * place) ≡ 12 → Brief l (part_at l sizes place)
  procs-brief k e = brief-in k s.globals s.remain s.few e

  procs-adds : (g : Global) (gs : List Global) → Next l sizes place left g gs
      → procs_from (the_tree l) (g ∷ gs) first ≡ body_part (classes_in l) first (part_at l sizes place) ++ procs_from (the_tree l) gs (next_first (the_tree l) g first)
  procs-adds g gs n = rw n.part (procs-step (the_tree l) g gs first (heads-here h.legible g n.stands))

  procs-room-in : from + length (procs_front l) ≤ length old → 0 < left → (gs : List Global) → Left l place left gs → Writing old from (procs_front l) new at (procs_from (the_tree l) gs first)
      → at + length (body_part (classes_in l) first (part_at l sizes place)) ≤ length new
  procs-room-in r k [] q w = absurd (omega (arith, q.many))
  procs-room-in r k (g ∷ gs) q w =
      writing-room w (body_part (classes_in l) first (part_at l sizes place)) (procs_from (the_tree l) gs (next_first (the_tree l) g first))
      (procs-adds g gs (next-global g gs h q)) r

  pub procs-room : from + length (procs_front l) ≤ length old → 0 < left → at + length (body_part (classes_in l) first (part_at l sizes place)) ≤ length new
  procs-room r k = procs-room-in r k s.globals s.remain s.writing

  -- the next body begins where this one ends
  first-is : (g : Global) → (kind_of g ≡ 12 → get_or ends place 0 ≡ next_first (the_tree l) g first) → first_after (kind_of g) (get_or ends place 0) first ≡ next_first (the_tree l) g first
  unfolding kind_of next_first
  first-is (local (declare x)) k = refl
  first-is (local (holding g)) k = refl
  first-is (class c xs) k = refl
  first-is (procedure n xs b) k = k refl

  procs-next-in : {late : List ℕ} {q size later : ℕ} → Wrote new at (body_part (classes_in l) first (part_at l sizes place)) late q
      → later ≡ first_after (half_at l (8 * place)) (get_or ends place 0) first → size ≡ get_or sizes place 0
      → 0 < left → (gs : List Global) → Left l place left gs → Firsts (the_tree l) ends gs place first
      → Few (heads_of (proc_parts (the_tree l) (procs_of gs) first)) → Writing old from (procs_front l) new at (procs_from (the_tree l) gs first)
      → ProcsWriting l ends old from late (place + size) (left - 1) later q
  unfolding Firsts
  procs-next-in w d e k [] m fs fw y = absurd (omega (arith, m.many))
  procs-next-in w d e k (g ∷ gs) m fs fw y =
      let t = the_tree l in
      let n = next-global g gs h m in
      let z = d ∙ (ap (λ (i : ℕ). first_after i (get_or ends place 0) first) (kind-here l place g gs n) ∙ first-is g fs.0) in
      let x = writing-next y (body_part (classes_in l) first (part_at l sizes place)) (procs_from t gs (next_first t g first)) (procs-adds g gs n) w in
      record {
        globals = gs;
        remain = rw e n.next;
        firsts = rw (z, e, n.size) fs.1;
        few = rw z (few-first t g gs first fw);
        writing = rw z x;
      }

  pub procs-next : {late : List ℕ} {q size later : ℕ} → Wrote new at (body_part (classes_in l) first (part_at l sizes place)) late q
      → later ≡ first_after (half_at l (8 * place)) (get_or ends place 0) first → size ≡ get_or sizes place 0
      → 0 < left → ProcsWriting l ends old from late (place + size) (left - 1) later q
  procs-next w d e k = procs-next-in w d e k s.globals s.remain s.firsts s.few s.writing

  pub procs-end : left ≡ 0 → Wrote old from (procs_front l) new at
  unfolding procs_from procs_of proc_parts heads_of each
  procs-end k = writing-end s.writing (ap (λ (gs : List Global). procs_from (the_tree l) gs first) (none_left s.globals s.remain k))
