-- What the writer's functions keep. No promise cites it.
use Rattle.std.specs.Prelude.{◌≡◌, List, ◌++◌, ℕ, ◌+◌, ◌≤◌, length, take}
use Rattle.io.specs.Counts.{IsPrefixLen}
use Rattle.digits.specs.declared.Text.{Text}

-- the bytes of a text
abbrev pub bytes : Text → List ℕ
bytes x = take x.len x.out.now

-- a text of no bytes in the buffer o
pub record IsEmpty (o : List ℕ) (x : Text) : Type 0 where
  pub buffer : x.out.now ≡ o
  pub none : x.len ≡ 0

-- there is room for so many bytes more
abbrev pub HasRoom : Text → ℕ → Type 0
HasRoom x more = x.len + more ≤ length x.out.now

-- the bytes t are put behind the text x, in the same buffer
pub record Puts (x : Text) (t : List ℕ) (x' : Text) : Type 0 where
  pub same_reference : x'.out.ghost_name ≡ x.out.ghost_name
  pub same_room : length x'.out.now ≡ length x.out.now
  pub len : x'.len ≡ x.len + length t
  pub text : bytes x' ≡ bytes x ++ t

-- .. and they are at most so many
pub record PutsFew (most : ℕ) (x : Text) (t : List ℕ) (x' : Text) : Type 0 where
  pub puts : Puts x t x'
  pub few : x'.len ≤ x.len + most

-- the text t stands at the start of the buffer o', up to `to`
pub record Written (t o' : List ℕ) (to : ℕ) : Type 0 where
  pub counts : IsPrefixLen to o'
  pub text : take to o' ≡ t
