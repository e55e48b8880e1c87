-- Words of the session calls as numbers, by computing.
use mathlib.Core.Path.{refl}
use Rattle.spec_limits.specs.Limits.{max_account_octets, max_aliases, max_label_octets, max_issuer_octets, max_name_octets, max_request_octets, max_book_octets, max_records}
use Rattle.spec_refusal.specs.Refusal.{number as refusalNumber, place}
use Rattle.spec_octets.specs.Reader.{number}
use Rattle.spec_name.specs.Names.{name}
use Rattle.spec_octets.specs.Octets.{is_digit, is_upper, is_lower, is_letter_or_digit, is_blank, lower, equal_ignoring_case, is_parameter_octet}
use Rattle.spec_octets.specs.Label.{is_letter_digit_hyphen, is_label, is_host_label}
use Rattle.spec_request.specs.Request.{is_wildcard, base, is_requestable, requested_name}
use Rattle.spec_issuer.specs.Issuer.{is_issuer, issuer_refusal}
use Rattle.spec_record.specs.Property.{read_property, property, is_critical, tag_of}
use Rattle.spec_record.specs.Records.{is_caa, is_alias, target, is_laid_out, resource_record, record_items, records, layout_refusal, clashes, conflict_refusal, book_refusal}
use Rattle.spec_value.specs.IssueValues.{is_domain_name, is_parameter_tag, is_parameter, are_parameters, issue_value}
use Rattle.spec_value.specs.Parameters.{parameter_in, parameters_in}
use Rattle.spec_applicant.specs.Applicant.{is_account, is_method, is_applicant, applicant_refusal}
use Rattle.spec_applicant.specs.Admission.{admits}
use Rattle.spec_rule.specs.RelevantSet.{lookup}
use Rattle.spec_rule.specs.Authorizations.{is_unknown_critical, governing, grantee}
use Rattle.spec_rule.specs.Verdicts.{verdict}
use Rattle.spec_rule.specs.Calls.{judgement_code}
use Rattle.spec_packed.specs.Packed.{packed}
use Rattle.spec_session.specs.Sessions.{max_text_octets, held, text_of, kept_name, kept_applicant, is_kept, asking, decided, is_asking, asked, verdict_of, standing, state}
use Rattle.spec_session.specs.Steps.{ended_refusal, one_name_refusal, session_of, ended_session, opened, answered, failed, session_code}
use Rattle.spec_session_words.specs.SessionWords.{packed_session}
use Rattle.spec_session_words.specs.SessionWordEdges.{WordsTakenApart, SessionWordsAgree, StateWordsAgree}

pub words_taken_apart : WordsTakenApart
words_taken_apart = refl

pub session_words_agree : SessionWordsAgree
unfolding max_label_octets max_issuer_octets max_aliases max_name_octets max_request_octets max_book_octets max_records is_digit is_upper is_lower
    is_letter_or_digit is_blank lower equal_ignoring_case is_letter_digit_hyphen is_label is_host_label is_wildcard base is_issuer read_property property
    is_critical tag_of is_caa is_alias target is_domain_name is_parameter_octet is_parameter_tag is_parameter are_parameters issue_value parameter_in parameters_in
    admits lookup is_unknown_critical governing grantee verdict name is_requestable requested_name issuer_refusal max_account_octets is_account is_method
    is_applicant applicant_refusal is_laid_out resource_record record_items records layout_refusal clashes conflict_refusal book_refusal number judgement_code
    max_text_octets held text_of kept_name kept_applicant is_kept asking decided is_asking asked verdict_of standing state one_name_refusal session_of
    ended_session opened ended_refusal answered failed session_code refusalNumber place packed packed_session
session_words_agree = refl

pub state_words_agree : StateWordsAgree
unfolding max_label_octets max_issuer_octets max_name_octets max_records is_digit is_upper is_lower is_letter_or_digit is_letter_digit_hyphen is_label is_host_label base is_issuer
    is_parameter_octet name is_requestable requested_name max_account_octets is_account is_method is_applicant max_text_octets held text_of kept_name kept_applicant
    is_kept asking decided is_asking asked verdict_of standing state session_code judgement_code packed packed_session
state_words_agree = refl
