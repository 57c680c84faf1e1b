-- Program ROOTS of document 01 and the variants of its cases, as payloads.
use Rattle.std.specs.Prelude.{List, [], ◌∷◌, ◌++◌, ℕ}

---- One line a record

abbrev header : ℕ → ℕ → ℕ → List ℕ
header types constructors functions = 1 ∷ types ∷ constructors ∷ functions ∷ []

abbrev constant : ℕ → List ℕ
constant result = result ∷ 0 ∷ 0 ∷ 0 ∷ 0 ∷ 0 ∷ 0 ∷ 0 ∷ []

abbrev load : ℕ → List ℕ
load a = 1 ∷ a ∷ 0 ∷ 0 ∷ []

abbrev build : ℕ → List ℕ
build a = 2 ∷ a ∷ 0 ∷ 0 ∷ []

abbrev call : ℕ → List ℕ
call a = 3 ∷ a ∷ 0 ∷ 0 ∷ []

abbrev branch : ℕ → ℕ → List ℕ
branch a b = 4 ∷ a ∷ b ∷ 0 ∷ []

abbrev return : List ℕ
return = 5 ∷ 0 ∷ 0 ∷ 0 ∷ []

abbrev stop : List ℕ
stop = 6 ∷ 0 ∷ 0 ∷ 0 ∷ []

---- ROOTS

-- "Types: 0 code, 1 list, 2 count" and its six constructors
abbrev declarations : List ℕ
declarations =
    header 3 6 1 ++
    constant 0 ++  -- 0 crack
    constant 0 ++  -- 1 root
    constant 1 ++  -- 2 nil
    (1 ∷ 2 ∷ 0 ∷ 1 ∷ 0 ∷ 0 ∷ 1 ∷ 0 ∷ []) ++  -- 3 cons(code, list), weight 1
    constant 2 ++  -- 4 zero
    (2 ∷ 1 ∷ 2 ∷ 0 ∷ 0 ∷ 0 ∷ 1 ∷ 0 ∷ [])  -- 5 next(count), weight 1

-- "Function 0: list to count, one alternative": so many instructions, a coefficient and a constant
abbrev head : ℕ → ℕ → ℕ → List ℕ
head count coefficient constant =
    (2 ∷ 1 ∷ 1 ∷ 0 ∷ 0 ∷ 0 ∷ 1 ∷ 0 ∷ count ∷ 0 ∷ []) ++
    (coefficient ∷ 0 ∷ 0 ∷ 0 ∷ constant ∷ 0 ∷ [])

-- its code, with the targets of the two branches and what stands between instructions 6 and 7
abbrev code : ℕ → ℕ → List ℕ → List ℕ
code outer inner between =
    load 1 ++ branch 3 outer ++ load 2 ++ branch 1 inner ++ call 0 ++ build 5 ++ between ++ return ++
    load 3 ++ call 0 ++ return ++
    build 4 ++ return

abbrev pub roots : List ℕ
roots = declarations ++ head 12 1 0 ++ code 11 8 []

---- Its variants

-- K3: "coefficient 0, constant 5"
abbrev pub uncounted : List ℕ
uncounted = declarations ++ head 12 0 5 ++ code 11 8 []

-- K4: "a second build 5 after 6, targets moved by one"
abbrev pub doubled : List ℕ
doubled = declarations ++ head 13 1 0 ++ code 12 9 (build 5)

-- K5: "instruction 2 else 3"
abbrev pub misdirected : List ℕ
misdirected = declarations ++ head 12 1 0 ++ code 3 8 []

-- K14: "a function of arity 0, stop alone"
abbrev pub stopping : List ℕ
stopping =
    header 1 1 1 ++
    constant 0 ++
    (0 ∷ 0 ∷ 0 ∷ 0 ∷ 0 ∷ 0 ∷ 1 ∷ 0 ∷ 1 ∷ 0 ∷ []) ++
    (0 ∷ 0 ∷ 0 ∷ 0 ∷ 0 ∷ 0 ∷ []) ++
    stop
