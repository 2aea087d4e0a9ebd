-- The loop's invariant, and that each op's arm keeps it.
use mathlib.Core.Path.{◌≡◌, refl, ◌∙◌, subst}
use mathlib.Core.List.{List}
use Prim.Native.Nat.{ℕ, suc, ◌+◌, ◌*◌, ◌-◌, ◌≤◌, ◌<◌}
use native.Mathlib.Omega.{arith}
use lib.ListN.{length}
use Rattle.words.specs.Numbers.{byte_at, half_at, word_at}
use Rattle.words.specs.Laws.{Bytes}
use Rattle.load_places.specs.Records.{count, code_base}
use Rattle.load_check.specs.Views.{viewed}
use Rattle.machine_ops.specs.declared.Event.{Event}
use Rattle.machine_ops.specs.declared.Out.{Out}
use Rattle.machine_ops.specs.declared.Out.TheVariants.{Goes, Reads, Gives, Ends}
use Rattle.machine_run.specs.declared.Answer.TheVariants.{Happens, Finishes}
use Rattle.machine_run.specs.Held.{Held, Poised, Acts, Steps, ran, Runs, Since, since, Reaches}
use Rattle.machine_run.proofs.ByteSteps.{Top, Read, top_of, address-in, read_of, poised, running-steps}
use Rattle.machine_run.proofs.RunLoop.{held-on, reads-running, go_on, read-on, gave, finished}
use Rattle.machine_run.proofs.LoopKeeps as after
use Rattle.bytecode.specs.State.{activation_length, activations_at}

-- what is kept of running bytes
pub record Kept (l : List ℕ) (f at : ℕ) : Type 0 where
  pub phase : byte_at l 0 ≡ 0
  pub place : f ≡ activations_at + activation_length * (byte_at l 2 - 1)
  pub address : at ≡ half_at l (f + 4)

-- after i steps of k, with no more readings than steps
pub record Loop (code readings : List ℕ) (k : ℕ) (b₀ : Since) (l : List ℕ) (f at i : ℕ) : Type 0 where
  pub upto : i ≤ k
  pub few : b₀.read ≤ i
  pub held : Held code l
  pub long : length l ≡ length b₀.first
  pub reached : Reaches code readings k b₀ l i
  pub kept : Kept l f at

-- the steps taken, by another name
pub recount : {code readings : List ℕ} {k : ℕ} {b₀ : Since} {l : List ℕ} {f at i j : ℕ} → i ≡ j → Loop code readings k b₀ l f at i → Loop code readings k b₀ l f at j
recount {code} {readings} {k} {b₀} {l} {f} {at} e I = subst (λ (z : ℕ). Loop code readings k b₀ l f at z) e I

module _ {code readings : List ℕ} {k : ℕ} {b₀ : Since} {l : List ℕ} {f at i : ℕ} (I : Loop code readings k b₀ l f at i) where
  pub top : Top l
  top = top_of code l I.held I.kept.phase

  pub low-place : f ≤ 10200
  low-place = omega (arith, I.kept.place, top.low, top.high)

  pub in_code : at < count code
  in_code = address-in code l I.held I.kept.phase f at I.kept.place I.kept.address

  pub small : at < 65536
  small = omega (arith, in_code, (viewed code I.held.macro I.held.reads).codes, I.held.passed.narrow.few-instructions)

-- the op at hand is read: the number of operands, and the instruction
pub record Ready (code readings : List ℕ) (k : ℕ) (b₀ : Since) (l : List ℕ) (f at i n op a b : ℕ) : Type 0 where
  pub loop : Loop code readings k b₀ l f at i
  pub low : Bytes readings
  pub read : Read code l f n at op a b

pub ready_of : {code readings : List ℕ} {k : ℕ} {b₀ : Since} {l : List ℕ} {f at i : ℕ} → Loop code readings k b₀ l f at i → Bytes readings
    → (base n op a b : ℕ) → base ≡ code_base code → n ≡ byte_at l (f + 1)
    → op ≡ byte_at code (base + 8 * at + 2) → a ≡ byte_at code (base + 8 * at + 3) → b ≡ word_at code (base + 8 * at + 4) → Ready code readings k b₀ l f at i n op a b
ready_of {code} {l = l} {f = f} {at = at} I low base n op a b based depth op-is a-is b-is =
    record { loop = I; low = low; read = read_of code l base (byte_at l 2) f n at op a b based refl I.kept.place depth I.kept.address op-is a-is b-is }

module _ {code readings : List ℕ} {k : ℕ} {b₀ : Since} {l : List ℕ} {f at i n op a b : ℕ} where
  pub poise : Ready code readings k b₀ l f at i n op a b → Poised code readings op a b l f n at
  poise R = poised code l readings R.low R.loop.held R.loop.kept.phase f n at op a b R.read

  -- it is done
  pub record Acted (R : Ready code readings k b₀ l f at i n op a b) (l' : List ℕ) (o : Out) : Type 0 where
    pub acts : Acts code readings op a b l f n at l' o
    pub more : i < k
    pub same : length l' ≡ length l

  module _ {R : Ready code readings k b₀ l f at i n op a b} {l' : List ℕ} {o : Out} (A : Acted R l' o) where
    steps : Steps code readings l l' o
    steps = running-steps code l readings l' o R.loop.kept.phase f n at op a b R.read A.acts

    pub happened : length readings ≡ 64 → (byte_at b₀.first 0 ≡ 2 → ⊥) → (v : Event) → o ≡ Gives v → Runs code readings k b₀.first l' (ran (Happens v (i + 1)) b₀.read)
    happened sixty-four alive v q = gave code readings l l' o R.low steps k i b₀ A.more R.loop.reached sixty-four alive v q

    pub done : length readings ≡ 64 → (byte_at b₀.first 0 ≡ 2 → ⊥) → (c : ℕ) → o ≡ Ends c → Runs code readings k b₀.first l' (ran (Finishes c (i + 1)) b₀.read)
    done sixty-four alive c q = finished code readings l l' o R.low steps k i b₀ A.more R.loop.reached sixty-four alive c q

    pub still-long : length l' ≡ length b₀.first
    still-long = A.same ∙ R.loop.long

    pub still : Held code l'
    still = held-on code readings l l' o R.low steps R.loop.held

    pub there : byte_at l' 0 ≡ 0 → Top l'
    there z = top_of code l' still z

    -- and took a reading
    module _ (q : o ≡ Reads) where
      pub runs-on : byte_at l' 0 ≡ 0
      runs-on = reads-running code readings l l' o R.low steps R.loop.held q

      pub again-read : (f' at' : ℕ) → f' ≡ activations_at + activation_length * (byte_at l' 2 - 1) → at' ≡ half_at l' (f' + 4)
          → Loop code readings k (since b₀.first (b₀.read + 1)) l' f' at' (i + 1)
      again-read f' at' p e = record {
        upto = omega (arith, A.more);
        few = omega (arith, R.loop.few);
        held = still;
        long = still-long;
        reached = read-on code readings l l' o R.low steps k i b₀ A.more R.loop.reached q;
        kept = record { phase = runs-on; place = p; address = e };
      }

    -- and gave nothing
    module _ (q : o ≡ Goes) where
      pub further : Reaches code readings k b₀ l' (i + 1)
      further = go_on code readings l l' o R.low steps k i b₀ A.more R.loop.reached q

      pub left-off : (byte_at l' 0 ≡ 0 → ⊥) → byte_at l' 0 ≡ 1
      left-off = after.releasing code readings l op a b f n at (poise R) l' o A.acts q

      pub back : op ≡ 11 → (byte_at l' 0 ≡ 0) × (suc (byte_at l' 2) ≡ byte_at l 2)
      back = after.comes_back code readings l op a b f n at (poise R) l' o A.acts

      -- the activation below stands below
      pub lower : op ≡ 11 → (activations_at + activation_length ≤ f) × (f - activation_length ≡ activations_at + activation_length * (byte_at l' 2 - 1))
      lower e = let g = back e in let T = there g.0 in (omega (arith, g.1, T.low, R.loop.kept.place), omega (arith, g.1, T.low, R.loop.kept.place))

      -- with what is kept read anew
      pub again : (f' at' : ℕ) → byte_at l' 0 ≡ 0 → f' ≡ activations_at + activation_length * (byte_at l' 2 - 1) → at' ≡ half_at l' (f' + 4) → Loop code readings k b₀ l' f' at' (i + 1)
      again f' at' z p e = record {
        upto = omega (arith, A.more);
        few = omega (arith, R.loop.few);
        held = still;
        long = still-long;
        reached = further;
        kept = record { phase = z; place = p; address = e };
      }

      pub again-below : op ≡ 11 → (at' : ℕ) → at' ≡ half_at l' (f - activation_length + 4) → Loop code readings k b₀ l' (f - activation_length) at' (i + 1)
      again-below e at' h = again (f - activation_length) at' (back e).0 (lower e).1 h

      as_before : byte_at l' 2 ≡ byte_at l 2 → f ≡ activations_at + activation_length * (byte_at l' 2 - 1)
      as_before e = rw e R.loop.kept.place

      -- as a jump leaves it
      jumped : (byte_at l' 0 ≡ 0) × (byte_at l' 2 ≡ byte_at l 2) → (at' : ℕ) → at' ≡ half_at l' (f + 4) → Loop code readings k b₀ l' f at' (i + 1)
      jumped g at' h = again f at' g.0 (as_before g.1) h

      pub again-to : op ≡ 8 → (at' : ℕ) → at' ≡ half_at l' (f + 4) → Loop code readings k b₀ l' f at' (i + 1)
      again-to e = jumped (after.goes-to code readings l op a b f n at (poise R) l' o A.acts e)

      pub again-unless : op ≡ 9 → (at' : ℕ) → at' ≡ half_at l' (f + 4) → Loop code readings k b₀ l' f at' (i + 1)
      again-unless e = jumped (after.goes-unless code readings l op a b f n at (poise R) l' o A.acts e)

      pub again-next : (op ≡ 8 → ⊥) → (op ≡ 9 → ⊥) → (op ≡ 10 → ⊥) → (op ≡ 11 → ⊥) → byte_at l' 0 ≡ 0 → Loop code readings k b₀ l' f (at + 1) (i + 1)
      again-next n8 n9 n10 n11 z =
          let g = after.goes-on code readings l op a b f n at (poise R) l' o A.acts n8 n9 n10 n11 z in
          again f (at + 1) z (as_before g.0) (omega (arith, g.1))
