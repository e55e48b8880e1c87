pub mod ScheduleSteps
