-- One form for another, by the kind of the entry: who asks or answers for the one does for the other.
use Rattle.std.specs.Prelude.{◌≡◌, refl, true, false, List, ℕ}
use Rattle.std.proofs.Common.{sym, ◌∙◌}
use Rattle.words.specs.Numbers.{half_at}
use Rattle.language.specs.Names.{Scope}
use Rattle.logic.specs.Tests.{clash}
use Rattle.table_scopes.specs.Environment.{env_of}
use Rattle.table_scopes.specs.Flaws.{Verdict, Says, once_flaw}
use Rattle.table_forms.specs.Forms.{Form, simple, guard, counted, blocked, bodied, labelled, head_f, faults_f, StmtForm, SimpleForm, LabelForm, is-label, is-other}
use Rattle.table_forms.specs.Walk.{Ready, Asks, Answers, Typed, is_plain}
use Rattle.table_forms.specs.Part.{head_of}

pub kind-of : {f : Form} {ss : List Scope} {seen l part : List ℕ} {nesting at : ℕ} {sizes env : List ℕ} {top : ℕ} → Ready f ss seen l part nesting at sizes env top → half_at part 0 ≡ (head_f f).kind
kind-of r = (head_of _ _ r.table r.stands).kind

module _ {P Q : Form → Type 0} {l part : List ℕ} {nesting at : ℕ} {sizes : List ℕ} {top : ℕ} (to : (f : Form) → P f → half_at part 0 ≡ (head_f f).kind → Q f) where
  pub ask-as : {env : List ℕ} → Asks P l part nesting at sizes env top → Asks Q l part nesting at sizes env top
  ask-as q = record { form = q.form; scopes = q.scopes; seen = q.seen; holds = to q.form q.holds (kind-of q.ready); ready = q.ready }

  pub answer-as : {old new : List ℕ} {r : Verdict} → Answers Q l part nesting at sizes old new top r → Answers P l part nesting at sizes old new top r
  answer-as t = record { kept = t.kept; same = t.same; judged = λ f ss seen h q. t.judged f ss seen (to f h (kind-of q)) q }

  pub typed-as : {old new : List ℕ} {r : Verdict} → Typed Q l part nesting at sizes old new top r → Typed P l part nesting at sizes old new top r
  typed-as t = record { kept = t.kept; same = t.same; judged = λ f ss seen h q. t.judged f ss seen (to f h (kind-of q)) q }

  pub typed-answer : {old new : List ℕ} {r : Verdict} → Typed Q l part nesting at sizes old new top r → Answers P l part nesting at sizes old new top r
  typed-answer t = record { kept = t.kept; same = t.same; judged = λ f ss seen h q. (t.judged f ss seen (to f h (kind-of q)) q).says }

pub plain_form : (f : Form) → StmtForm f → (k : ℕ) → is_plain k ≡ true → k ≡ (head_f f).kind → SimpleForm f
unfolding is_plain
plain_form f h k e z =
    let differs : (m : ℕ) → is_plain m ≡ false → ¬ ((head_f f).kind ≡ m) = λ m d y. clash (let w : is_plain m ≡ true = rw (z ∙ y) at e in let x : true ≡ false = sym w ∙ d in cc) in
    is-other f h (differs 1 refl) (differs 20 refl) (differs 22 refl) (differs 23 refl) (differs 24 refl) (differs 30 refl) (differs 31 refl)

-- a label
label-says : (f : Form) → LabelForm f → {ss : List Scope} {seen l part : List ℕ} {nesting at : ℕ} {sizes env : List ℕ} {top : ℕ} (r : Verdict) → Ready f ss seen l part nesting at sizes env top
    → Says r (once_flaw (env_of env top) (half_at part 2) at) → Says r (faults_f ss seen at f)
label-says (simple o es) h r q k = absurd h
label-says (guard g e is) h r q k = absurd h
label-says (counted a e f g s) h r q k = absurd h
label-says (blocked ds is) h r q k = absurd h
label-says (bodied ds is e) h r q k = absurd h
label-says (labelled a) h r q k = rw ((head_of _ _ q.table q.stands).a, q.once) at k

pub label-answer : {l part : List ℕ} {nesting at : ℕ} {sizes env : List ℕ} {top : ℕ} {r : Verdict} → half_at part 0 ≡ 20
    → Says r (once_flaw (env_of env top) (half_at part 2) at) → Answers StmtForm l part nesting at sizes env env top r
label-answer {r = r} e k = record { kept = refl; same = refl; judged = λ f ss seen h q. label-says f (is-label f h (sym (kind-of q) ∙ e)) r q k }
