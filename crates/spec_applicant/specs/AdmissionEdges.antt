-- Values, each with whether their parameters admit the account https://a/1 with the method dns-01. Worked out by hand.
use Rattle.std.specs.Prelude.{ℕ, Bool, true, false, List, [], ◌∷◌, ◌++◌, replicate}
use Prim.Native.Char.{code}
use Rattle.spec_octets.specs.Octets.{text}
use Rattle.spec_applicant.specs.Applicant.{Applicant}

abbrev pub someone : Applicant
someone = record { account = text "https://a/1"; method = text "dns-01" }

abbrev pub admission_edges : List (List ℕ × Bool)
admission_edges =
    -- No limit.
    (text "n", true)
    ∷ (text "n;", true)
    -- accounturi: the account itself, octet for octet, with white space around it.
    ∷ (text "n; accounturi=https://a/1", true)
    ∷ (text "n; accounturi = https://a/1 ", true)
    ∷ (text "n; accounturi=https://a/2", false)
    ∷ (text "n; accounturi=https://a/", false)
    ∷ (text "n; accounturi=https://a/11", false)
    ∷ (text "n; accounturi=ttps://a/1", false)
    ∷ (text "n; accounturi=xhttps://a/1", false)
    ∷ (text "n; accounturi=HTTPS://a/1", false)
    ∷ (text "n; accounturi=", false)
    -- It is not a list.
    ∷ (text "n; accounturi=https://a/1,https://a/2", false)
    -- validationmethods: the method is one of the items, octet for octet.
    ∷ (text "n; validationmethods=dns-01", true)
    ∷ (text "n; validationmethods = dns-01 ", true)
    ∷ (text "n; validationmethods=http-01", false)
    ∷ (text "n; validationmethods=http-01,dns-01", true)
    ∷ (text "n; validationmethods=dns-01,http-01", true)
    ∷ (text "n; validationmethods=a,dns-01,b", true)
    ∷ (text "n; validationmethods=dns-01,dns-01", true)
    ∷ (text "n; validationmethods=a,b", false)
    ∷ (text "n; validationmethods=dns-0", false)
    ∷ (text "n; validationmethods=dns-011", false)
    ∷ (text "n; validationmethods=ns-01", false)
    ∷ (text "n; validationmethods=xdns-01", false)
    ∷ (text "n; validationmethods=a,dns-011,ns-01", false)
    ∷ (text "n; validationmethods=DNS-01", false)
    ∷ (text "n; validationmethods=dns-01:a", false)
    -- An empty item, wherever it stands.
    ∷ (text "n; validationmethods=", false)
    ∷ (text "n; validationmethods=,", false)
    ∷ (text "n; validationmethods=dns-01,", false)
    ∷ (text "n; validationmethods=,dns-01", false)
    ∷ (text "n; validationmethods=dns-01,,a", false)
    -- The tags in any letter case.
    ∷ (text "n; AccountURI=https://a/1", true)
    ∷ (text "n; ACCOUNTURI=https://a/2", false)
    ∷ (text "n; ValidationMethods=dns-01", true)
    ∷ (text "n; VALIDATIONMETHODS=http-01", false)
    -- Twice the same tag, whatever the values, in any letter case, side by side or not.
    ∷ (text "n; accounturi=https://a/1; accounturi=https://a/1", false)
    ∷ (text "n; accounturi=https://a/1; AccountURI=https://a/1", false)
    ∷ (text "n; accounturi=https://a/1; accounturi=https://a/2", false)
    ∷ (text "n; accounturi=https://a/2; accounturi=https://a/1", false)
    ∷ (text "n; accounturi=https://a/1; a=1; accounturi=https://a/1", false)
    ∷ (text "n; validationmethods=dns-01; validationmethods=dns-01", false)
    ∷ (text "n; validationmethods=dns-01; ValidationMethods=dns-01", false)
    ∷ (text "n; validationmethods=dns-01; validationmethods=http-01", false)
    ∷ (text "n; validationmethods=http-01; a=1; validationmethods=dns-01", false)
    -- Both tags: both limits hold, each for its own text.
    ∷ (text "n; accounturi=https://a/1; validationmethods=dns-01", true)
    ∷ (text "n; validationmethods=dns-01; accounturi=https://a/1", true)
    ∷ (text "n; accounturi=https://a/1; validationmethods=http-01", false)
    ∷ (text "n; accounturi=https://a/2; validationmethods=dns-01", false)
    ∷ (text "n; accounturi=dns-01", false)
    ∷ (text "n; validationmethods=https://a/1", false)
    ∷ (text "n; accounturi=dns-01; validationmethods=https://a/1", false)
    -- Other parameters don't matter, also twice, and also if their tag only begins or ends like one of the two.
    ∷ (text "n; a=1; a=2", true)
    ∷ (text "n; account=https://a/2", true)
    ∷ (text "n; accounturis=https://a/2", true)
    ∷ (text "n; xaccounturi=https://a/2", true)
    ∷ (text "n; validationmethod=http-01", true)
    ∷ (text "n; validationmethodsx=http-01", true)
    ∷ (text "n; methods=http-01", true)
    ∷ (text "n; b=; accounturi=https://a/1; b=2", true)
    ∷ (text "n; b=; accounturi=https://a/2; b=2", false)
    ∷ []

-- The longest texts: an account of 255 octets `a`, and a method of 255 octets `m`.
abbrev pub longest : Applicant
longest = record { account = replicate 255 (code "a"); method = replicate 255 (code "m") }

-- Values, each with whether their parameters admit these: every octet counts, the first, one inside and the last.
abbrev pub long_edges : List (List ℕ × Bool)
long_edges =
    (text "n; accounturi=" ++ replicate 255 (code "a"), true)
    ∷ (text "n; accounturi=" ++ replicate 254 (code "a"), false)
    ∷ (text "n; accounturi=" ++ replicate 256 (code "a"), false)
    ∷ (text "n; accounturi=" ++ (replicate 254 (code "a") ++ text "b"), false)
    ∷ (text "n; accounturi=" ++ (replicate 200 (code "a") ++ (text "b" ++ replicate 54 (code "a"))), false)
    ∷ (text "n; accounturi=b" ++ replicate 254 (code "a"), false)
    ∷ (text "n; validationmethods=x," ++ replicate 255 (code "m"), true)
    ∷ (text "n; validationmethods=x," ++ replicate 254 (code "m"), false)
    ∷ (text "n; validationmethods=x," ++ replicate 256 (code "m"), false)
    ∷ (text "n; validationmethods=x," ++ (replicate 254 (code "m") ++ text "n"), false)
    ∷ (text "n; validationmethods=x," ++ (replicate 200 (code "m") ++ (text "n" ++ replicate 54 (code "m"))), false)
    ∷ (text "n; validationmethods=x,n" ++ replicate 254 (code "m"), false)
    ∷ []
