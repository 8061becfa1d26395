pub mod ScheduleText
pub mod ScheduleFaults
pub mod ParaText
pub mod SeededSchedule
pub mod Steps
