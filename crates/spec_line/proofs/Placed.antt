-- Output that fits the buffer is written, and output that doesn't fit is refused.
use Rattle.std.specs.Prelude.{Ok}
use Prim.Native.Nat.{ℕ, ◌≤◌, ◌<◌}
use mathlib.Core.Path.{◌≡◌, sym, ap}
use mathlib.Core.List.{List}
use lib.ListN.{length}
use borrow.Author.Tests.{le-leb, lt-leb}
use Rattle.spec_refusal.specs.declared.Refusal.TheVariants.{NoRoom}
use Rattle.spec_octets.specs.Buffer.{Put}
use Rattle.spec_line.specs.Calls.{Output, refused, placed}

pub placed_there : (e b x : List ℕ) (n k : ℕ) → n ≡ length e → n ≤ length b → Put e b x k → placed e b ≡ record { answer = Ok n; buffer = x }
unfolding placed
placed_there e b x n k m h p = rw (p.octets, ← m, le-leb n (length b) h)

pub placed_nowhere : (e b : List ℕ) (n : ℕ) → n ≡ length e → length b < n → placed e b ≡ refused (NoRoom n) b
unfolding placed
placed_nowhere e b n m h = rw (← m, lt-leb n (length b) h)

-- an output told by its two parts
pub told : (call : List ℕ → List ℕ → Output) (s b : List ℕ) (o : Output) → call s b ≡ o → (o.answer ≡ (call s b).answer) × (o.buffer ≡ (call s b).buffer)
told call s b o e = (ap (λ o. o.answer) (sym e), ap (λ o. o.buffer) (sym e))
