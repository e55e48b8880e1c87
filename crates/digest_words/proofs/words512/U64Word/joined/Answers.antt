-- `joined` meets its contract: the eight octets of a word, one by one.
use Rattle.std.proofs.Common.{◌≡◌, length, refl, arith}
use Rattle.spec_digest.specs.Members.{sha512}
use Rattle.digest_words.proofs.JoinedLaws.{joined_listed}
use Rattle.digest_words.proofs.words512.U64Word.joined.Goals as goal

pub returns-in-len8 : goal.returns-in-len8
unfolding sha512
returns-in-len8 c =
    let long : length c.args.octets.now ≡ 8 = omega arith in
    omega (arith, joined_listed sha512 c.args.octets.now 7 long refl)
