-- The owner of a service as the code writes it, octet by octet, from the octets of the host.
use Rattle.std.specs.Prelude.{ℕ, ◌+◌, List, ◌∷◌, ◌++◌, length}
use Prim.Native.Char.{code}
use Rattle.spec_tlsa.specs.Owners.{Service}

abbrev pub service : List ℕ → List ℕ → List ℕ → Service
service host port transport = record { host = host; port = port; transport = transport }

-- A label of an underscore and the text, after its length octet.
abbrev pub label_octets : List ℕ → List ℕ
label_octets t = (length t + 1) ∷ code "_" ∷ t

-- The two labels in front of the host, and the whole owner.
abbrev pub prefix_octets : List ℕ → List ℕ → List ℕ
prefix_octets port transport = label_octets port ++ label_octets transport

abbrev pub owner_octets : List ℕ → List ℕ → List ℕ → List ℕ
owner_octets port transport host = prefix_octets port transport ++ host
