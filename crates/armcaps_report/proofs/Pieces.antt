-- Texts that are made piece by piece.
use Rattle.std.proofs.Common.{◌≡◌, ℕ, List, ◌++◌, append_assoc}

pub two_pieces : (line a b one all : List ℕ) → one ≡ line ++ a → all ≡ one ++ b → all ≡ line ++ (a ++ b)
two_pieces line a b one all first last = rw (last, first) (simp append_assoc)

pub three_pieces : (line a b c one two all : List ℕ) → one ≡ line ++ a → two ≡ one ++ b → all ≡ two ++ c → all ≡ line ++ (a ++ b ++ c)
three_pieces line a b c one two all first second last = rw (last, second, first) (simp append_assoc)
