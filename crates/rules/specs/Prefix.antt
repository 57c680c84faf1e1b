-- Arguments and results in prefix order, one constructor number a byte, and the argument check, 12. Document 01, "The run".
use Rattle.std.specs.Prelude.{List, [], ◌∷◌, ◌++◌, ◌&&◌, ℕ, suc, length, take, drop, leb, eqb, Option, None, Some}
use Rattle.rules.specs.Base.{refusal, Tried, found, refused, ◌>>=◌, Check, passed, require, or_refuse}
use Rattle.rules.specs.Program.{Constructor, Function, Program, constructor}
use Rattle.rules.specs.Tree.{Trees, node, nil, cons, made}
use Rattle.rules.specs.Machine.{Value}

---- 12: "first, arguments too long (65,535, 0); then unknown constructor, wrong type, cut short, left over, over 256 pending after that
---- byte. (offset, 0)"

-- a byte at an offset, where values of these types are still to be read: the types that are still to be read after it.
-- "Values still to be read, remaining arguments included, never exceed 256"
unfoldable pub read_byte : Program → ℕ → ℕ → List ℕ → Tried (List ℕ)
read_byte s offset c [] = refused (refusal 12 offset 0)
read_byte s offset c (t ∷ pending) = do
  k ← or_refuse (constructor s c) (refusal 12 offset 0)
  let pending' = k.arguments ++ pending
  _ ← require (eqb k.result t && leb (length pending') 256) (refusal 12 offset 0)
  found pending'

unfoldable pub read_bytes : Program → ℕ → List ℕ → List ℕ → Check
read_bytes s offset [] [] = passed
read_bytes s offset [] (t ∷ pending) = refused (refusal 12 offset 0)
read_bytes s offset (c ∷ bytes) pending = do
  pending' ← read_byte s offset c pending
  read_bytes s (suc offset) bytes pending'

unfoldable pub arguments_right : Program → Function → List ℕ → Check
arguments_right s f bytes = do
  _ ← require (leb (length bytes) 65535) (refusal 12 65535 0)
  read_bytes s 0 bytes f.parameters

---- Values from bytes and back

unfoldable pub arity_of : Option Constructor → ℕ
arity_of None = 0
arity_of (Some k) = length k.arguments

-- how many arguments constructor c of a program has
abbrev pub arity : Program → ℕ → ℕ
arity s c = arity_of (constructor s c)

-- the values that bytes stand for, made "from the last byte to the first"
unfoldable pub values : Program → List ℕ → List Value
values s [] = []
values s (c ∷ bytes) =
    let n = arity s c in
    let later = values s bytes in
    made c (take n later) ∷ drop n later

-- "Figures are written likewise": the bytes of a value
unfoldable mutual
  pub written : Value → List ℕ
  written (node c vs) = c ∷ written_all vs

  pub written_all : Trees ℕ → List ℕ
  written_all nil = []
  written_all (cons v vs) = written v ++ written_all vs
